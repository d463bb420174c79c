pub mod PlacedLaws
pub mod LocatedLaws
pub mod StoringLaws
