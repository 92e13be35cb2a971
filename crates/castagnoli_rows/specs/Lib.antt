pub mod Folds
pub mod Reading
