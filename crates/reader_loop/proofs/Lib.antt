pub mod LoopLaws
pub mod ThenLaws
