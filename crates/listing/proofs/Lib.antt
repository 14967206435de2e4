pub mod Demands
pub mod Entering
pub mod OneAnswer
pub mod Turns
pub mod WalkLaws
