pub mod JudgeLaws
pub mod OnLaws
