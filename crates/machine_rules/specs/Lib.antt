pub mod State
pub mod Step
pub mod Steps
pub mod Stopped
pub mod Sound
