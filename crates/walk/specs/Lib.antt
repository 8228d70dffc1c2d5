pub mod Places
pub mod Coming
pub mod Standing
pub mod Meaning
