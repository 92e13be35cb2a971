pub mod Checksum
pub mod Machine
pub mod Asked
pub mod Changes
pub mod Many
pub mod Weights
pub mod Lanes
