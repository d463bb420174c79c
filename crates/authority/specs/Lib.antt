pub mod Laid
pub mod Members
pub mod Every
