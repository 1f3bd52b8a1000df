pub mod CookieBytes
mod Dates
mod Drafts
mod Finishing
mod Heads
mod Lines
pub mod Printable
mod Reasons
pub mod Weighing
