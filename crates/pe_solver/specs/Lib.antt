pub mod Walk
pub mod Lean
pub mod Masks
pub mod Derivation
pub mod Sample
pub mod Prefix
pub mod Answer
