pub mod Changes
pub mod Moved
pub mod Queueing
pub mod Spelling
