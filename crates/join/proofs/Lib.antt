pub mod Products
pub mod Scaling
pub mod Factors
pub mod GuardsJoined
pub mod Multiplied
