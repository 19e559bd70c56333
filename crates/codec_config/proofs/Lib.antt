mod Conds
mod Sets
mod Letters
pub mod Avc
pub mod Hevc
pub mod Aac
pub mod Av1
pub mod Opus
pub mod Flac
pub mod Rules
pub mod Noninterference
pub mod Masks
pub mod Types
pub mod Codecs
pub mod Examples
pub mod HeadExamples
