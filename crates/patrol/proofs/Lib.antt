pub mod Rows
pub mod Answers
pub mod Injective
pub mod Rounds
pub mod Occurring
pub mod Theorem
pub mod Promised
pub mod Figures
