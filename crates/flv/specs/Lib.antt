pub mod Files
pub mod Calls
pub mod Grammar
pub mod Claims
