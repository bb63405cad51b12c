mod AddedFiles
mod Closing
mod DeletedShown
mod FilesGot
mod TreeFiles
pub mod Growing
mod InfoEnds
mod Likeness
mod Lines
mod Mounting
mod Nearby
mod Opening
mod PathsKnown
mod Saying
mod Statuses
mod Undeleting
mod Patterns
mod InArchive
pub mod PassedOver
mod Parting
mod Archiving
mod Catting
