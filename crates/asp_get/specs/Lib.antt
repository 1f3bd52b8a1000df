pub mod Answered
pub mod Underway
