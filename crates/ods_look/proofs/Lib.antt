pub mod Rows
pub mod FileBodies
pub mod FilesFound
pub mod BlockPlaces
pub mod BlocksRead
pub mod OpenDirectories
pub mod StatAnswers
mod Coming
pub mod NotedNames
