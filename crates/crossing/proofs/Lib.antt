pub mod Cases
pub mod Keeps
pub mod OneAnswer
pub mod ReadBack
pub mod RestLaws
pub mod Walkable
