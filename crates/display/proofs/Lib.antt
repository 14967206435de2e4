pub mod PartLaws
pub mod DayLaws
pub mod TextLaws
pub mod FitLaws
pub mod OneAnswer
