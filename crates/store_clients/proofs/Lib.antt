pub mod Steps
pub mod Returns
