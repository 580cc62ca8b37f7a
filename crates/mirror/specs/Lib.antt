pub mod Mirror
pub mod Rows
pub mod Tables
