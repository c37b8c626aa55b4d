pub mod Choice
pub mod Lent
pub mod Columns
