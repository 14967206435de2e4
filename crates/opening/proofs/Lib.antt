pub mod OneAnswer
pub mod PeriodLaws
