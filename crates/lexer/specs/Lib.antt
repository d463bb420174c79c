pub mod Scan
pub mod Told
