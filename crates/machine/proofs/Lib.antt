pub mod StartLaws
pub mod RunLaws
pub mod MoveLaws
