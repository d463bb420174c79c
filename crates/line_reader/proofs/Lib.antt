pub mod ExitLaws
pub mod TakeLaws
