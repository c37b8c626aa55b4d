pub mod Read
pub mod Margin
pub mod Fresh
pub mod Step
pub mod Line
