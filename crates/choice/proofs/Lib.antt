pub mod AskingLaws
pub mod OutcomeLaws
