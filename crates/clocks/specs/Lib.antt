pub mod Blocks
pub mod Clocks
