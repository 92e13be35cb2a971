pub mod Deciding
pub mod Rebuilding
pub mod Once
pub mod Rules
