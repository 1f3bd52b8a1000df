pub mod Flat
pub mod Listing
