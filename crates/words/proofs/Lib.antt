pub mod Linear
pub mod Parts
pub mod Sparse
pub mod Steps
pub mod Bytes
pub mod Ored
