pub mod SequenceLaws
pub mod Places
pub mod Keeping
pub mod Example
