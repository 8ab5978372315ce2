pub mod Said
pub mod Near
pub mod DayTexts
pub mod Steps
