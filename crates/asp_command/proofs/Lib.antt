mod Lists
mod Numbers
mod OptionWords
mod Behind
pub mod OneCommand
pub mod Ranges
