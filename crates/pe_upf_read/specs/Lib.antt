pub mod UpfGrammar
pub mod Parts
pub mod Terminals
pub mod Names
pub mod Options
pub mod Meaning
pub mod Spelling
pub mod Format
