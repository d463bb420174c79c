pub mod ReplyLaws
pub mod BoundReplyLaws
