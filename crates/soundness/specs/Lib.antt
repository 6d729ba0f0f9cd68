pub mod Shares
pub mod ReadLaws
pub mod StageLaws
