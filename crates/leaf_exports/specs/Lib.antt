pub mod FourccLeaves
pub mod ModexLeaves
pub mod HeaderLeaves
pub mod RecordLeaves
pub mod TrackLeaves
pub mod DescriptorLeaves
pub mod ClassLeaves
