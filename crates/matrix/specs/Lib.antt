pub mod Matrix
pub mod Vector
pub mod Products
pub mod Calls
pub mod Claims
