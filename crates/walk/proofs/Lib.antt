pub mod Places
pub mod Lowest
pub mod Rising
pub mod Below
pub mod Standing
pub mod Walks
