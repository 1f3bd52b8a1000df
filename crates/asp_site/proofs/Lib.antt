pub mod Joined
pub mod Shared
pub mod SpotPlaces
