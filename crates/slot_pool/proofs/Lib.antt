pub mod Entries
pub mod Keys
pub mod Putting
pub mod Seen
pub mod Taking
pub mod Writing
