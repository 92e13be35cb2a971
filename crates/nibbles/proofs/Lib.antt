pub mod Ends
pub mod Divided
