pub mod Points
pub mod Refusals
pub mod Views
pub mod Given
