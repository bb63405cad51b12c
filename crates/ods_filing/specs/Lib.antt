pub mod Amended
pub mod Contiguous
pub mod Filed
pub mod Led
pub mod Put
pub mod Unput
pub mod Laws
