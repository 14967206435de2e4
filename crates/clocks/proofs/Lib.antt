pub mod Blocks
pub mod Choices
pub mod OneAnswer
pub mod Rows
pub mod Tied
