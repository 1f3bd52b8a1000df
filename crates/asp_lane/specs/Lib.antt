pub mod Turns
pub mod Rest
pub mod Started
pub mod Slice
pub mod Course
pub mod First
pub mod Underway
