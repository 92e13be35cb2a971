pub mod Events
pub mod Runs
pub mod Ledger
pub mod LastAccepted
pub mod WholeLife
