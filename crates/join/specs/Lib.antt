pub mod Remainders
pub mod Joins
