pub mod Tree
pub mod Table
pub mod States
pub mod Laws
pub mod Refusals
pub mod Calls
pub mod Judged
pub mod Stands
