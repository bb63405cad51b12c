pub mod Size
pub mod Container
pub mod Footer
pub mod Part
