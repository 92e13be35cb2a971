pub mod Verdicts
pub mod Flags
pub mod QuickWide
