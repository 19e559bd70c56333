pub mod Nonempty
pub mod KindTypes
pub mod Slots
pub mod Runs
pub mod Keeping
pub mod Lates
pub mod Rows
