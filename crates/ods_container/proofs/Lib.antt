pub mod Containers
pub mod Sizes
pub mod Sent
pub mod Lacking
