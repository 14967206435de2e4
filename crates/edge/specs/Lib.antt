pub mod Bytes
pub mod Layout
pub mod Edge
pub mod Claims
pub mod Chains
