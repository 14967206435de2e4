pub mod Examples
pub mod Marks
pub mod Masks
pub mod Numbers
pub mod OneAnswer
pub mod Years
