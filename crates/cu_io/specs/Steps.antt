pub mod LineSteps
pub mod Cuts
pub mod Noted
