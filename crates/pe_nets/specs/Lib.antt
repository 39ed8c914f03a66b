pub mod Nets
