pub mod Nests
pub mod Selects
pub mod Lent
pub mod Growing
