pub mod Entries
pub mod Table
pub mod Lines
pub mod Forms
pub mod Texts
