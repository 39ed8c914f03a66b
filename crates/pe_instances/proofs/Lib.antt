pub mod Layers
pub mod Reading
pub mod Drives
pub mod Ordering
pub mod Starts
pub mod OneMap
