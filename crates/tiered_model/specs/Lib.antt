pub mod Tiered
pub mod Groups
pub mod Laws
pub mod Ledger
pub mod Resizes
