pub mod Spelled
pub mod Laid
pub mod Beginnings
pub mod Longest
pub mod LongestNumbers
pub mod LongestPieces
pub mod Answered
