pub mod Folder
pub mod Saving
pub mod Memory
