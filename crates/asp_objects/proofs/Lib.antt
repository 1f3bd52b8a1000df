pub mod Drafting
pub mod Keeping
mod Fine
mod FineRequest
mod FineResponse
mod FineState
pub mod Remembering
pub mod Sharing
