pub mod CreationLaws
pub mod FacingLaws
pub mod NewLaws
pub mod OwnLaws
pub mod ReturnLaws
pub mod CallLaws
