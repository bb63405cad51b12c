pub mod Places
pub mod Blocks
pub mod Interleaved
pub mod Pieces
pub mod Volumes
pub mod Laying
