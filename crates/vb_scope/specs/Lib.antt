pub mod Answers
pub mod Inside
pub mod Parts
pub mod Subs
