pub mod Asked
pub mod KindLaws
