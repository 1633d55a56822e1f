pub mod Inputs
pub mod TrimServed
