pub mod DeviceLaws
pub mod FormsLaws
pub mod SheetLaws
