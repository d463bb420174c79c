pub mod HeldLaws
pub mod ObjectLaws
