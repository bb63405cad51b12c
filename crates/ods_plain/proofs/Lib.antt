pub mod Changes
pub mod LineLists
pub mod Moves
pub mod NoNames
pub mod RowLists
