pub mod AsksNothing
pub mod Dates
pub mod Determines
pub mod Months
pub mod OneAnswer
pub mod Table
pub mod Years
