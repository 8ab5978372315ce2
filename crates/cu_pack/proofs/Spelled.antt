-- Files of hierarchies, and bytes that pass every check.
pub mod Parts
pub mod Putting
pub mod Growing
pub mod Ordered
pub mod Respelled
pub mod Passed
pub mod Sealed
pub mod Again
pub mod Accepted
pub mod Whole
