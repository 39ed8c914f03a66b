pub mod Layers
pub mod Chains
pub mod Targets
pub mod Reading
pub mod Ports
pub mod OneMap
