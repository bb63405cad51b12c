pub mod Digits
pub mod OneTold
pub mod Wanting
pub mod FromEnd
