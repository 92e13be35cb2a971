pub mod Puts
pub mod Stores
