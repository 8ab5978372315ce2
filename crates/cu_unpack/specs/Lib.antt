pub mod Answers
pub mod Counts
pub mod LeastFunctions
pub mod Rebuilds
pub mod RebuiltRuns
pub mod Told
pub mod Visits
pub mod Steps
