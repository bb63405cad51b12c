pub mod Firsts
pub mod InBrackets
pub mod Numerals
pub mod Places
