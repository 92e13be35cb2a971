pub mod Nibbles
pub mod Quotients
