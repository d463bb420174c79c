pub mod BorderLaws
pub mod StretchFound
