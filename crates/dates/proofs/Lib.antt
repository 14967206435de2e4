pub mod OneAnswer
pub mod TableDates
pub mod YearTables
