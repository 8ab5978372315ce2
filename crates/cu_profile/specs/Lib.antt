pub mod ProfileTexts
pub mod Written
pub mod Steps
