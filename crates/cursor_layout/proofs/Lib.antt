pub mod LengthLaws
mod OneAnswer
