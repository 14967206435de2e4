pub mod Capped
pub mod Counted
pub mod OneAnswer
pub mod Reach
