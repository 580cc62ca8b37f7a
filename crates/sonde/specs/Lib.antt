pub mod Frames
pub mod Ends
