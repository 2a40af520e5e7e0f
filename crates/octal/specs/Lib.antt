pub mod Numbers
pub mod Lines
pub mod Words
pub mod Refusals
