pub mod Days
pub mod OneAnswer
pub mod Searches
