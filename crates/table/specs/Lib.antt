pub mod Layout
pub mod View
pub mod Only
pub mod Pool
pub mod Stores
pub mod Ready
pub mod Whole
pub mod Told
