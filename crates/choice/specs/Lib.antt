pub mod Outcome
pub mod OutcomeLaws
