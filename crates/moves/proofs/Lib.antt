pub mod Ahead
pub mod Examples
pub mod OneAnswer
pub mod Searches
pub mod Steps
pub mod Ties
