pub mod ListDrives
pub mod AddedRuns
pub mod HalfDrives
pub mod LinkedRuns
pub mod EntryDrives
pub mod Putting
pub mod AnswersNear
