pub mod Cuts
pub mod Numbers
pub mod One
pub mod Users
