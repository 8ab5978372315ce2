pub mod HalfBounds
pub mod ListLeast
pub mod ProfileTravels
pub mod Renewed
pub mod Turns
