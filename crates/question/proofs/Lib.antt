pub mod AskedLaws
pub mod ClearLaws
pub mod ToldLaws
