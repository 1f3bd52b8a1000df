pub mod Bounds
mod Cuts
mod Finding
pub mod Fronts
mod HeaderFields
mod Marks
mod OpenTargets
mod Paths
pub mod Shortest
pub mod Small
pub mod Streams
mod Targets
mod Utf8
