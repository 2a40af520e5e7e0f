pub mod Digit
pub mod Line
pub mod Written
pub mod Same
