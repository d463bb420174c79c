pub mod LackLaws
