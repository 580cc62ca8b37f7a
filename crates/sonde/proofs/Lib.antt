mod Courses
mod Cutting
mod Keeping
mod Lengths
mod Opening
mod Writing
