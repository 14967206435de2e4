pub mod FirstWeek
pub mod Readings
pub mod WrongVersions
