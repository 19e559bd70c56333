pub mod Exits
pub mod Sheets
pub mod Runs
pub mod Rows
