pub mod NoteLaws
pub mod FormNoteLaws
