pub mod DayChains
pub mod DayAnswers
pub mod DayCalls
pub mod DayLines
pub mod Steps
