pub mod Located
pub mod Placed
