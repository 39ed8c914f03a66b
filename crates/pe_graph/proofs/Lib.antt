pub mod TableLemmas
pub mod Growth
pub mod Gates
pub mod Evaluation
