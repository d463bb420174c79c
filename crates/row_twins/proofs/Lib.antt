pub mod TwinLaws
