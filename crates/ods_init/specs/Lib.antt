pub mod Label
pub mod Places
pub mod HomeBytes
pub mod Blocks
pub mod New
