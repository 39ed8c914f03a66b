pub mod Answers
pub mod Assignments
pub mod Cases
pub mod Questions
