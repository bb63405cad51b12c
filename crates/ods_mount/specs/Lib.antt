pub mod Faults
pub mod Sound
pub mod Checks
pub mod Tables
pub mod Refusals
pub mod Laws
