pub mod Telling
pub mod ParseUnit
pub mod ParseScript
