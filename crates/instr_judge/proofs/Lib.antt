pub mod InstrLaws
