pub mod Names
pub mod Beginnings
pub mod Declarations
pub mod Checking
