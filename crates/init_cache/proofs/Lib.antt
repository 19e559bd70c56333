pub mod Cases
pub mod Records
pub mod Rules
pub mod Alike
pub mod KindLaws
