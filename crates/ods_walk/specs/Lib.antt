pub mod Complete
pub mod Entering
pub mod Listing
pub mod Paths
pub mod Steps
pub mod Walk
