pub mod Limits
pub mod Plan
pub mod Ceiling
pub mod Admission
pub mod Accepted
pub mod Facts
pub mod Parts
pub mod Ceiled
