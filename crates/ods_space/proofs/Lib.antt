pub mod Chains
mod Samples
pub mod Drafts
pub mod DraftImages
pub mod Surveys
pub mod Walks
pub mod AsFar
pub mod Sizes
pub mod Surveyed
pub mod Layouts
pub mod Growing
pub mod Onward
mod Located
pub mod Parts
pub mod Wholes
