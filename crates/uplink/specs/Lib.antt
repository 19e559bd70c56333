pub mod Uplink
pub mod Histories
pub mod Claims
