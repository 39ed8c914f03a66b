pub mod Equivalent
pub mod Outcome
pub mod Reads
pub mod Refusals
pub mod Report
pub mod Run
pub mod Said
