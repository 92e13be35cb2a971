pub mod Reading
pub mod Columns
pub mod Many
