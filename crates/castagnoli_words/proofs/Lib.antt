pub mod Moves
pub mod Sparse
pub mod Steps
pub mod Ends
pub mod Zeros
