pub mod Tracks
pub mod Container
pub mod Answer
pub mod Acceptance
pub mod Sealed
pub mod Positions
pub mod Halves
