pub mod Claims
pub mod Stretches
