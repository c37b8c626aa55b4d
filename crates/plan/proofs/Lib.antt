pub mod Bounds
pub mod OneSubsystem
pub mod Order
pub mod CeilingLaws
pub mod Facts
pub mod BlockingLaws
pub mod DemandLaws
