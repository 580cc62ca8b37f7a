pub mod HochOst
pub mod Histories
