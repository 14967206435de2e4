pub mod ListLaws
pub mod StopLaws
pub mod FillLaws
pub mod DayLaws
