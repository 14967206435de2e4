pub mod OneAnswer
pub mod Parts
