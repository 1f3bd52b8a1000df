mod OneFolder
pub mod OneSite
pub mod OneCourse
pub mod OneGet
pub mod Refusals
pub mod OneReplayOutput
pub mod OneReplayJournal
pub mod OneGetOutput
pub mod OneGenJournal
mod ObjectsEnd
mod Heads
