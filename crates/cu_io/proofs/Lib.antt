pub mod Appending
pub mod Cutting
pub mod LineLaws
mod Moving
mod Noting
mod Reading
pub mod Taking
