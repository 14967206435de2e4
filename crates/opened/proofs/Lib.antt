pub mod Fitting
pub mod Opened
pub mod Plans
pub mod Spans
pub mod Tables
pub mod Yielded
