pub mod Lists
pub mod Refusals
pub mod Sizes
pub mod Runs
pub mod Calls
pub mod Shift
