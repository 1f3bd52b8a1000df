pub mod Past
pub mod Serials
pub mod Texts
