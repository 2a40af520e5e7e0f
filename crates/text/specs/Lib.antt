pub mod Names
pub mod Digits
pub mod Sheet
pub mod Bounds
pub mod Report
