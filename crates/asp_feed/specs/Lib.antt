pub mod Feeding
pub mod Shown
