pub mod Literals
pub mod Nodes
pub mod Table
pub mod Cone
pub mod Places
