pub mod Sayings
pub mod Outcomes
pub mod Reports
pub mod Standing
