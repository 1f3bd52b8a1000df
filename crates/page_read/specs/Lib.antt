pub mod Marks
pub mod Attributes
pub mod Forms
pub mod Fragments
pub mod Including
pub mod Expansion
pub mod Reading
pub mod Spelling
