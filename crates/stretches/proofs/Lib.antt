pub mod OneAnswer
pub mod Spanned
