pub mod Spellings
pub mod Digits
pub mod Terminals
pub mod Shapes
pub mod Building
pub mod Answering
