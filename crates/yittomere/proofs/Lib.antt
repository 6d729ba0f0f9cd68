pub mod OrderLaws
pub mod StepIntoLaws
