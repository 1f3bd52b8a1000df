pub mod Balance
pub mod Answering
mod Telling
