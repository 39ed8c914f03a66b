pub mod MapLines
pub mod Pieces
pub mod MapOnce
