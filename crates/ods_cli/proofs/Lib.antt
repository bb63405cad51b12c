pub mod Replies
pub mod Serving
pub mod Printing
pub mod OneMore
pub mod Parsing
pub mod Parts
