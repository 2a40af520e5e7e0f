pub mod Below
pub mod Acts
pub mod Laws
pub mod Kept
