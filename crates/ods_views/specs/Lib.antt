pub mod Refusals
pub mod Versions
pub mod Viewers
