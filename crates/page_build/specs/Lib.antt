pub mod Building
pub mod Declaring
pub mod Script
pub mod Words
