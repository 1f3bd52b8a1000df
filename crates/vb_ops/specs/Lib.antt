pub mod Arithmetic
pub mod Joining
pub mod Comparison
pub mod Logic
pub mod Operators
