pub mod Outside
pub mod Named
pub mod Memory
