pub mod Held
pub mod Inputs
pub mod Served
pub mod Statuses
pub mod Stopped
