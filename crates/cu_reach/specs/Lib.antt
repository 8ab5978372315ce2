pub mod Departures
pub mod Reaching
pub mod NodeFields
pub mod ReachLines
pub mod ReachTexts
pub mod ReachAnswers
pub mod Steps
pub mod Aims
