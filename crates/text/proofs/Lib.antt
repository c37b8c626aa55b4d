pub mod Until
pub mod Parted
pub mod Lines
pub mod Numbers
