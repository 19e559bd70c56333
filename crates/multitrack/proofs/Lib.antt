pub mod Doubles
pub mod Laws
