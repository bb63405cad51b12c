pub mod Body
pub mod Sending
