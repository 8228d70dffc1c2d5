pub mod Flat
pub mod Places
pub mod Ledger
