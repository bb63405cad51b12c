pub mod Commands
pub mod Naming
pub mod Numbered
pub mod Said
pub mod Spelling
pub mod Spoken
pub mod Texts
