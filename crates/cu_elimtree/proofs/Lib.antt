pub mod Climbing
pub mod Unique
