pub mod Calls
pub mod Fresh
pub mod Last
pub mod Plays
pub mod Whole
