pub mod Calls
pub mod Books
pub mod Histories
pub mod Stands
pub mod Figures
