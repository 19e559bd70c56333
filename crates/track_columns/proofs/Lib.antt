pub mod Walking
pub mod Filling
pub mod Reading
pub mod Written
pub mod Alike
pub mod Calls
pub mod Rows
