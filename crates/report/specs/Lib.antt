pub mod Reports
pub mod Feeding
pub mod Fills
pub mod Runs
