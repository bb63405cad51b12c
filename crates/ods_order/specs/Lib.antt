pub mod Order
pub mod Volumes
pub mod Laws
