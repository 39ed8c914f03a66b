pub mod Answering
pub mod Short
pub mod Uses
pub mod Viewed
pub mod Sounding
pub mod Unique
