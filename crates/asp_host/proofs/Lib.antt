mod Literals
mod Causes
mod Fed
mod GenEnds
mod GetEnds
mod Inputs
mod Marks
mod Outputs
mod ReplayEnds
pub mod Replaying
mod ServeEnds
mod Summed
