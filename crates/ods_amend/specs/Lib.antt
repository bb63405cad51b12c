pub mod Access
pub mod Label
pub mod Bits
pub mod Runs
