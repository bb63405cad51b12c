pub mod Amended
pub mod Changing
pub mod Ends
pub mod Entries
pub mod Kept
pub mod Made
pub mod Preparing
pub mod Struck
