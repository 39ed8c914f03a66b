pub mod Power
pub mod Refined
pub mod Sound
