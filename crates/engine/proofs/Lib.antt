pub mod Differences
pub mod Ranges
pub mod Small
pub mod Norm
pub mod FirstStep
pub mod Equal
