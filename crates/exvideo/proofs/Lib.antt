pub mod Signs
pub mod Cases
pub mod Laws
pub mod Times
pub mod Rows
