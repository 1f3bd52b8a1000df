pub mod Causes
pub mod Picked
pub mod ChosenPaths
pub mod Loading
mod SameFiles
mod Runs
mod Pages
mod OneSite
mod OneFault
