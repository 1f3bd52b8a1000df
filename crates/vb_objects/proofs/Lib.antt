pub mod Texts
pub mod Subjects
pub mod Named
