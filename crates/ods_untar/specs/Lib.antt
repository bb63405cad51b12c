pub mod Told
pub mod Wanted
pub mod Faults
pub mod Laws
pub mod Below
