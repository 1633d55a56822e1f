pub mod Contexts
pub mod Made
