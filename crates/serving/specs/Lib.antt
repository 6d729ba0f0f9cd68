pub mod Asked
pub mod ChangeLaws
pub mod ReadLaws
pub mod WriteLaws
pub mod ServedLaws
