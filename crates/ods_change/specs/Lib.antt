pub mod Steps
pub mod Beginning
pub mod Creating
pub mod Entering
pub mod Taking
pub mod IndexGrown
pub mod Extending
pub mod Truncating
