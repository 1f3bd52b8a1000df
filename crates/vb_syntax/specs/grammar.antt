pub mod Rules
pub mod Words
pub mod Expressions
pub mod Declarations
pub mod SimpleStatements
pub mod Statements
pub mod Units
pub mod Faults
