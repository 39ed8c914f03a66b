pub mod Boolean
pub mod Statement
pub mod Meaning
