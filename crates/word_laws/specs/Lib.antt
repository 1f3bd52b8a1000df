pub mod Spelling
