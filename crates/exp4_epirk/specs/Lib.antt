pub mod Stages
pub mod Variant
