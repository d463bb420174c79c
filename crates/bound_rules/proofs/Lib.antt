pub mod Opened
pub mod BoundCases
pub mod StrictLaws
pub mod AmountLaws
pub mod BoundLaws
pub mod SureHolds
pub mod SureUsed
