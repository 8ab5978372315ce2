pub mod Runs
pub mod Choices
pub mod Behind
pub mod Steps
