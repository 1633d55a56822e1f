pub mod Example
pub mod Flushes
pub mod Life
