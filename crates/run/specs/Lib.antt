pub mod Standing
pub mod Lined
pub mod Stream
pub mod AsFar
pub mod Reporting
pub mod Fed
pub mod Running
