pub mod Reply
pub mod Collect
pub mod CollectLaws
pub mod ReplyLaws
pub mod TenLines
pub mod Listed
pub mod ListedLaws
pub mod Promised
