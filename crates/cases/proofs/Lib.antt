pub mod Charts
pub mod Edges
pub mod Examples
pub mod Records
pub mod Refusals
pub mod Words
