pub mod Counters
pub mod Claims
