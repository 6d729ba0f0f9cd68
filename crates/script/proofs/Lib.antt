pub mod CollectLaws
pub mod FreshLaws
pub mod ListedLaws
pub mod PromisedLaws
pub mod ReplyLaws
pub mod TenLines
