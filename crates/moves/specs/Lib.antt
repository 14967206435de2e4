pub mod Claims
pub mod Increments
