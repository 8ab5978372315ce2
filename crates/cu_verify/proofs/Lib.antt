pub mod OneBuilt
pub mod Parted
pub mod Agreeing
