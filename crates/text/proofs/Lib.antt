pub mod Reading
pub mod Writing
pub mod Length
pub mod Example
pub mod Unique
