pub mod Laws
pub mod Octal
pub mod Written
pub mod Tests
