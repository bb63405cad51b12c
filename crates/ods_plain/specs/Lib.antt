pub mod Codes
pub mod Files
pub mod Lines
pub mod Rows
pub mod Steps
