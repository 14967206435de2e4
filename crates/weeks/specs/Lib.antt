pub mod Claims
pub mod Weeks
