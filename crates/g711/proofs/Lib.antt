pub mod Computed
pub mod Codes
pub mod Peaks
pub mod Levels
pub mod Standard
pub mod Attained
pub mod Rows
