pub mod Walks
pub mod Joins
pub mod Pushes
pub mod Stages
