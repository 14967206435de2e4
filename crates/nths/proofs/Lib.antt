pub mod MarkLaws
pub mod NthLaws
pub mod OneAnswer
pub mod Rows
pub mod Slots
