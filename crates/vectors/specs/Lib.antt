pub mod Vector
pub mod VectorLaws
