pub mod Known
pub mod Records
pub mod Sums
pub mod Steps
pub mod Openings
pub mod Ends
pub mod Claims
