pub mod HullLegs
pub mod Listed
pub mod ReadRows
pub mod LeftLegs
