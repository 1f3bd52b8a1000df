pub mod Laws
pub mod Objects
pub mod Dictionaries
pub mod Moves
