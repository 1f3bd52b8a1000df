pub mod Account
pub mod Kept
pub mod Letters
pub mod Reading
pub mod Steps
