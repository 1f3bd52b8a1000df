pub mod Clashes
pub mod Lines
pub mod Places
pub mod FewNames
pub mod Undeclared
pub mod FirstLine
