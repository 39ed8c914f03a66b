pub mod Trying
pub mod Firsts
pub mod CaseFacts
pub mod CaseLists
pub mod Judged
pub mod Asked
pub mod Headline
