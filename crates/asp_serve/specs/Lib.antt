pub mod Jobs
pub mod Served
pub mod Steps
pub mod Visits
pub mod Hosts
