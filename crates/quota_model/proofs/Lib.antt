pub mod Grants
pub mod Totals
pub mod Lawful
