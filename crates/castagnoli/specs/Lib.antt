pub mod Reflected
pub mod Castagnoli
pub mod Tables
pub mod Blocks
