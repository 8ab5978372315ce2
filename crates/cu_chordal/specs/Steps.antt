pub mod Flat
pub mod Closing
pub mod Links
pub mod Checking
pub mod Listing
