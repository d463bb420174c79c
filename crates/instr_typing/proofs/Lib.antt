pub mod FindLaws
pub mod InstrLaws
pub mod SlotsLaws
