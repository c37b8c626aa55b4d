pub mod Below
pub mod Listed
pub mod Quotient
pub mod Least
