pub mod Hands
pub mod Lanes
pub mod Moved
