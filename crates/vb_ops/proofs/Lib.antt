mod Limits
mod Orders
