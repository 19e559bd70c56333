pub mod Laws
pub mod Outputs
pub mod Places
pub mod OffsetLaws
pub mod Noninterference
pub mod Rows
