pub mod Unique
pub mod Lives
pub mod Places
