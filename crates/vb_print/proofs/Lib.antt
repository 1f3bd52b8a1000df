pub mod ChainWords
pub mod Adding
pub mod Literals
