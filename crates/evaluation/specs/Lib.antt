pub mod Evaluation
pub mod Sizes
