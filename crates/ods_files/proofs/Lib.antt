pub mod HeaderSizes
pub mod Sends
pub mod FirstBytes
mod Sames
