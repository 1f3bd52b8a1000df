pub mod Answers
pub mod Held
pub mod Kept
pub mod View
