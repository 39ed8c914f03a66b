pub mod Follow
pub mod Chain
pub mod Known
pub mod Evidence
pub mod Table
pub mod Evaluation
pub mod Faults
pub mod Entries
