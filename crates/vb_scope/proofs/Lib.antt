pub mod Giving
pub mod TreePaths
pub mod Programs
pub mod OneProgram
pub mod Last
pub mod Parts
