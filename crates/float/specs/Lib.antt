pub mod Arith
pub mod Root
pub mod Digits
