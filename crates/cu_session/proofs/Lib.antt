pub mod Outputs
pub mod Legal
pub mod SessionLaws
mod EditLaws
mod QuestionLaws
pub mod RoadsAlone
mod DriveLines
mod KeptReplies
pub mod WaitingReplies
mod DoneAtOnce
mod PlannedLines
