pub mod Form
pub mod Pins
pub mod Wired
pub mod Settled
pub mod Fit
pub mod Begin
