pub mod Records
pub mod Calls
pub mod Meanwhile
pub mod AfterCut
