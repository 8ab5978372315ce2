pub mod OrderTexts
pub mod Written
pub mod Steps
