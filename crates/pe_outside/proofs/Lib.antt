pub mod Pieces
pub mod Risen
