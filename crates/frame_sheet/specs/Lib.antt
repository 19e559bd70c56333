pub mod Text
pub mod Lines
pub mod Columns
pub mod Steps
pub mod Sheet
pub mod Program
