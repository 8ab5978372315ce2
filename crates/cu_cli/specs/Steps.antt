pub mod Asks
pub mod Differing
pub mod Loading
pub mod Measuring
pub mod Opening
pub mod Storing
pub mod Outcomes
pub mod Trials
