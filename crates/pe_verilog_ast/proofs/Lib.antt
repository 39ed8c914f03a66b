pub mod Caps
pub mod Layers
pub mod Costs
pub mod Steps
