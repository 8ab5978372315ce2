pub mod Drives
pub mod RoadTexts
pub mod DriveLines
pub mod DriveAnswers
pub mod Steps
