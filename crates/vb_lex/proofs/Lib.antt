pub mod NumberLemmas
pub mod StringLemmas
pub mod Within
pub mod Cutting
pub mod Unique
