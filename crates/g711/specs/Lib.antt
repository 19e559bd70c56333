pub mod Expansion
pub mod Level
pub mod Claims
pub mod Loudness
