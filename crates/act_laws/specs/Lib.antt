pub mod Calls
pub mod Objects
pub mod Terminators
pub mod Ticks
pub mod Entries
pub mod Numbers
pub mod Held
pub mod Laws
