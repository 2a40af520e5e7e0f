pub mod Meant
pub mod Numbers
