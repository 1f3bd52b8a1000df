pub mod grammar
pub mod scope
pub mod Asking
