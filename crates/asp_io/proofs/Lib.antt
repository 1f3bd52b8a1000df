mod Reading
mod SitePaths
mod Sorting
mod Streams
pub mod Writing
