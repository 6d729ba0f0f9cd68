pub mod StepInto
pub mod OrderLaws
