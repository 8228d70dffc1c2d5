pub mod Meaning
pub mod Promises
pub mod Steps
