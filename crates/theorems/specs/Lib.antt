pub mod Statement
pub mod Keeps
pub mod Before
