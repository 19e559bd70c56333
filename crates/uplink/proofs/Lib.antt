pub mod Credits
pub mod Columns
pub mod Steps
pub mod Runs
pub mod Rows
