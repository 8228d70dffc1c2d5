pub mod Quotas
pub mod Laws
