pub mod State
pub mod Update
pub mod Fresh
pub mod Sized
