pub mod Inside
pub mod Lends
pub mod Pool
pub mod Slots
