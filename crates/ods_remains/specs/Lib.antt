pub mod Candidates
pub mod Keys
pub mod Chains
pub mod Scanned
pub mod Deleted
pub mod Idents
pub mod Shared
pub mod Summary
