pub mod ActEnds
pub mod Acts
pub mod Events
pub mod Failures
pub mod Lines
pub mod Pages
pub mod Running
pub mod Ticks
