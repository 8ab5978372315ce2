pub mod Links
pub mod Depths
pub mod Turning
pub mod Setting
pub mod Held
