pub mod Building
pub mod OneAnswer
pub mod OnePage
pub mod OneWords
pub mod PartWords
pub mod Within
