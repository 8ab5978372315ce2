pub mod NetworkTexts
pub mod Draws
pub mod Grids
pub mod Written
pub mod Steps
