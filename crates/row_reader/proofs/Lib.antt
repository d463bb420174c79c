pub mod KeepLaws
pub mod MemberLaws
pub mod MembersLaws
pub mod RowLaws
pub mod RowsLaws
