pub mod Served
pub mod ServedLaws
pub mod ByTheBook
