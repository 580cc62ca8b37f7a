pub mod Bools
pub mod Loops
pub mod Stores
pub mod Places
pub mod Ranges
