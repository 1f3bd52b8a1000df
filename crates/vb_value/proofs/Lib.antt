mod Arrays
mod Characters
mod Decimals
pub mod Digits
pub mod LineEnds
mod Messages
mod Plainness
mod Points
mod Ranges
pub mod Rounding
pub mod Soundness
