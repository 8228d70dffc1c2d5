pub mod Rooms
pub mod Plays
pub mod Wholes
