pub mod StoreLaws
pub mod CountLaws
pub mod InstrLaws
pub mod InstrsLaws
