pub mod FormLaws
pub mod FormUsed
