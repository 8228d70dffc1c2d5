pub mod Ranks
pub mod Ones
