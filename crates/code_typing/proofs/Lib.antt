pub mod WalkLaws
pub mod LineLaws
pub mod CodeLaws
