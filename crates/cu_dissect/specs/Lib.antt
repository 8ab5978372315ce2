pub mod Dissection
pub mod Apart
pub mod Steps
