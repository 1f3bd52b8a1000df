pub mod View
pub mod Rows
pub mod Tables
pub mod Telling
