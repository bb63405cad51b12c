pub mod Opening
pub mod Blocks
