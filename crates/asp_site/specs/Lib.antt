pub mod Endings
pub mod Lookup
pub mod Spots
