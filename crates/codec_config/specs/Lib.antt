pub mod Records
pub mod Positions
pub mod Layouts
pub mod TypeClaims
pub mod Heads
pub mod CodecClaims
