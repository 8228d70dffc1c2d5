pub mod Arriving
pub mod Granted
