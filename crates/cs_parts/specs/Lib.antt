pub mod Capabilities
pub mod References
