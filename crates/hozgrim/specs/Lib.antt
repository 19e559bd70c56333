pub mod Entries
pub mod Levels
