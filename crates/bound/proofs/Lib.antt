pub mod ItemsLaws
pub mod MembersLaws
pub mod PassedLaws
pub mod CallsLaws
pub mod CutLaws
pub mod AmountLaws
