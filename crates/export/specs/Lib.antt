pub mod Cal
