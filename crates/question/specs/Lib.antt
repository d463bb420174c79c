pub mod Cleared
pub mod Asked
