pub mod Crc
pub mod Polynomial
pub mod Guard
pub mod Blocks
