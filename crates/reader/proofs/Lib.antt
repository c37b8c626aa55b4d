pub mod Fields
pub mod Letters
pub mod Judged
pub mod Room
pub mod Onward
pub mod Answers
