pub mod NameLaws
pub mod StoreLaws
