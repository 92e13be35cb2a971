pub mod Members
pub mod Verdicts
pub mod Behind
