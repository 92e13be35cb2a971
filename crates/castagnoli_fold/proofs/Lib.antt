pub mod Multiple
pub mod Heads
pub mod Leads
pub mod Strides
