pub mod Table
pub mod Tiers
pub mod Sizes
pub mod Counts
pub mod Known
pub mod Shifts
