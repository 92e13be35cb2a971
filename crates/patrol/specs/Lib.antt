pub mod Patrols
pub mod Rows
pub mod Runs
pub mod EveryStripe
