pub mod Chosen
pub mod Picking
pub mod Files
pub mod Reading
pub mod Accepted
pub mod Stopping
