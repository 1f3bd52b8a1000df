pub mod Groups
pub mod TargetSteps
pub mod Lending
pub mod Arrays
pub mod Longer
