pub mod Blanks
pub mod DayTest
pub mod FilterLaws
pub mod Keeping
pub mod OneAnswer
pub mod Stretches
