pub mod Checked
pub mod Decided
pub mod Each
pub mod Headers
pub mod Holders
pub mod Layouts
pub mod Naming
pub mod Passing
pub mod Sets
pub mod Sharing
pub mod Soundness
pub mod Tables
pub mod Unlaid
mod Coming
