pub mod Collection
pub mod Cookies
pub mod Inputs
pub mod Kept
pub mod Pairs
pub mod Request
