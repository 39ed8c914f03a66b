pub mod Names
pub mod Statements
pub mod Walk
pub mod Inverse
pub mod FromTable
pub mod GroupFromTable
pub mod ToTable
