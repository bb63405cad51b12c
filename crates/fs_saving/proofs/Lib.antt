pub mod Sent
pub mod Changes
