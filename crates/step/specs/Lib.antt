pub mod Refusals
pub mod Events
pub mod Tick
pub mod Step
pub mod Strict
pub mod Lent
pub mod Refused
pub mod Kinds
