pub mod Words
pub mod Spelling
pub mod Listing
pub mod Rows
pub mod Candidate
pub mod Assembling
