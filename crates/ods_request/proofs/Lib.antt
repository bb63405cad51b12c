pub mod Equals
pub mod FaultTable
pub mod FrameLaws
pub mod IdentBytes
pub mod NameLaws
pub mod Orders
pub mod StepLaws
