pub mod Trees
pub mod Spellings
pub mod Needed
pub mod Inverse
pub mod Functions
