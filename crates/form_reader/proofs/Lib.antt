pub mod PartsLaws
pub mod FormLaws
pub mod HeadLaws
pub mod FormsLaws
