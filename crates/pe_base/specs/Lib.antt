pub mod Values
pub mod Operators
pub mod Words
pub mod Gates
pub mod Adder
pub mod Registers
pub mod Names
