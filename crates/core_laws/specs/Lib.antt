pub mod Laws
pub mod Locks
pub mod Wanted
pub mod Given
pub mod Alone
