pub mod Joined
pub mod Linear
pub mod Shifted
pub mod Noticed
pub mod Sharp
pub mod Division
pub mod Unique
