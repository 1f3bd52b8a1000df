pub mod Arithmetic
pub mod Converting
pub mod Bases
pub mod Testing
pub mod Arrays
pub mod Functions
pub mod TypeNames
