pub mod SlotsLaws
pub mod PartLaws
pub mod PartsLaws
pub mod HeadLaws
