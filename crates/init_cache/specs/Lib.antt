pub mod Head
pub mod Verdicts
pub mod Seen
pub mod Kind
pub mod Alike
pub mod Single
