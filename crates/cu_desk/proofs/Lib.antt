mod ClientLaws
pub mod NetworkRuns
mod ReplyLaws
mod Simulation
mod StepLaws
