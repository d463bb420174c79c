pub mod WalkLaws
pub mod SheetLaws
