pub mod Words
pub mod Numbers
pub mod Block
pub mod BlockCalls
pub mod Image
pub mod Pads
pub mod Opening
pub mod HasState
