pub mod Left
mod Going
pub mod Moved
