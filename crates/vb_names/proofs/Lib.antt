pub mod Beginnings
pub mod Hashing
pub mod Numbering
pub mod Objects
