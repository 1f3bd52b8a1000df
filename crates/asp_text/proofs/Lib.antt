mod Coding
mod HtmlLaws
mod PathLaws
pub mod Places
mod Segments
mod Trimming
