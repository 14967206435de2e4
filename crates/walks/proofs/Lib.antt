pub mod ByBounds
pub mod OneAnswer
pub mod SecondLaws
pub mod Walkable
pub mod WalkLaws
