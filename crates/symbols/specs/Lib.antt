pub mod Languages
pub mod Takes
pub mod Readers
pub mod Counts
pub mod Bytes
