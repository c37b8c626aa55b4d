pub mod FirstState
pub mod Wrote
pub mod Bounds
pub mod Through
