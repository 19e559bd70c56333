pub mod Store
pub mod Late
pub mod History
pub mod Claims
