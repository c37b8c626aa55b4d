pub mod Legal
pub mod Facts
pub mod Parts
