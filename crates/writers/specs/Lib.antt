pub mod Columns
pub mod Lengths
pub mod Writing
pub mod ContainerWriter
pub mod ModexWriter
pub mod Claims
