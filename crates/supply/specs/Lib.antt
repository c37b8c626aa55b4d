pub mod System
pub mod Assumed
pub mod Charges
