pub mod Found
pub mod FindingLaws
pub mod SendingLaws
pub mod LackingLaws
pub mod Merge
pub mod MergeLaws
