pub mod Formats
pub mod Packed
pub mod Methods
pub mod Kinds
pub mod Positions
