pub mod Logic
pub mod Form
pub mod Settled
pub mod Begin
