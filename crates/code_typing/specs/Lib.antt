pub mod Walk
pub mod Told
