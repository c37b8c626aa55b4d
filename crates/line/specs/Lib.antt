pub mod Event
pub mod Printed
pub mod Filled
pub mod Report
pub mod Run
pub mod Before
pub mod Reported
pub mod Named
