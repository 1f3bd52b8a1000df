pub mod Html
pub mod Url
pub mod Path
pub mod Laws
pub mod Walking
