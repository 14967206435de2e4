pub mod Cases
pub mod OneAnswer
pub mod Walkable
