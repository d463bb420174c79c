pub mod Noted
pub mod Asked
