pub mod Blocks
pub mod Done
pub mod Added
pub mod ComeBack
pub mod Led
pub mod Parts
pub mod InOnePiece
