pub mod Numerals
pub mod LineLaws
pub mod StepLaws
pub mod Sizes
pub mod Sheets
pub mod Runs
pub mod Rows
