pub mod Entries
pub mod Counted
pub mod Logs
pub mod Calling
pub mod CutRecovers
pub mod Rules
pub mod Figures
pub mod Promised
