pub mod BitLaws
pub mod WalkLaws
pub mod TurnLaws
pub mod MatchLaws
pub mod FillLaws
pub mod SheetLaws
