pub mod Tables
pub mod Checks
pub mod Taking
pub mod WrittenTexts
pub mod Steps
