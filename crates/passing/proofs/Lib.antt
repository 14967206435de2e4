pub mod Cases
pub mod OneAnswer
pub mod PassLaws
pub mod Passing
