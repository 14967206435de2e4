pub mod OutlineLaws
pub mod OneAnswer
