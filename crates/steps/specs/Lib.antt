pub mod Taken
pub mod StepLaws
pub mod TakenLaws
pub mod OneLaws
