pub mod Machine
pub mod DeskLines
pub mod HeldDesks
pub mod NetworkDesks
pub mod Says
pub mod Steps
