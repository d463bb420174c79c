pub mod Created
pub mod Running
pub mod Entered
