mod AllTold
mod Carried
mod Counts
mod Leading
mod Marked
mod Notes
mod Places
mod PutAll
mod Refusals
mod Slashed
mod Storing
mod Taking
mod Told
mod Reading
mod Whole
mod MoreVersions
mod Opened
mod Unpacking
pub mod Other
pub mod Giving
pub mod ShownRights
pub mod Appended
mod TreeLists
pub mod HostTimes
mod TreesKept
pub mod Shares
