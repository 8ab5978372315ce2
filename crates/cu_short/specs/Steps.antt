pub mod Counted
pub mod Recounted
