pub mod OneAnswer
pub mod Units
