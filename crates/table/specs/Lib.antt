pub mod Table
pub mod Kind
pub mod Whole
pub mod Claims
