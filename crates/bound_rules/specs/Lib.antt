pub mod Strict
pub mod Amount
pub mod BoundQuestion
pub mod Sure
