pub mod InfoLaws
pub mod OneAnswer
