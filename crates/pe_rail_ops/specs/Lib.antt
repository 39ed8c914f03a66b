pub mod Rails
pub mod Gates
pub mod Adders
pub mod Registers
pub mod Stages
pub mod Extension
