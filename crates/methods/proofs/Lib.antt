pub mod Made
pub mod Laws
pub mod Augmented
pub mod Tallies
pub mod Lines
pub mod Took
pub mod Shape
pub mod BlocksOf
