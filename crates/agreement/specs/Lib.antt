pub mod Shares
pub mod ReadLaws
