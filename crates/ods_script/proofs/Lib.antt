pub mod Asked
pub mod Files
pub mod HexTexts
pub mod Lawful
pub mod LineCuts
pub mod Meaning
pub mod VerbWords
pub mod Versions
