pub mod Most
pub mod Texts
pub mod Columns
pub mod Unique
