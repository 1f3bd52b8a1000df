pub mod Places
pub mod Stacks
pub mod Lends
pub mod Caught
pub mod Rules
pub mod Rest
pub mod Ended
