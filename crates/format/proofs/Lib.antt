pub mod Sizes
pub mod Combined
pub mod Laws
pub mod References
pub mod Past
pub mod Figures
pub mod Ranges
pub mod Meant
