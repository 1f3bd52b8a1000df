pub mod Sharing
pub mod Weights
