pub mod Blocks
pub mod Storage
pub mod Claims
