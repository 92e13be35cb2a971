pub mod Puts
pub mod Chunks
pub mod Folding
pub mod Multiple
pub mod Blanks
pub mod Reading
