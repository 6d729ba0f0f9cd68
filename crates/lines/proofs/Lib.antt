pub mod DecimalLaws
pub mod DigitLaws
pub mod FeedLaws
pub mod FieldLaws
pub mod FoundLaws
pub mod GotLaws
pub mod LineLaws
pub mod ReadLaws
