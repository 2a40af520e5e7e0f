pub mod Left
pub mod Unique
