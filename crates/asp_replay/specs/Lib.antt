pub mod Adds
pub mod Sequential
pub mod Feed
pub mod Underway
pub mod Near
pub mod Workers
