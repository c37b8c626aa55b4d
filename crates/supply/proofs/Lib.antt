pub mod High
pub mod Most
pub mod InTime
pub mod Count
pub mod Theorem
pub mod Tiny
