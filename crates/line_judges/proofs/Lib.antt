pub mod JudgeLaws
pub mod LineLaws
pub mod StrictLaws
pub mod PlaceLaws
