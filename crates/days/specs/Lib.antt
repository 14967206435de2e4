pub mod Claims
pub mod DaySets
pub mod Filters
