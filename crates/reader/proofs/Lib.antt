pub mod EndLaws
pub mod MainLaws
pub mod DeviceLaws
pub mod SheetLaws
pub mod OnReading
