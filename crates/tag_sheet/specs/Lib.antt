pub mod Sheet
pub mod Steps
pub mod Program
pub mod Claims
