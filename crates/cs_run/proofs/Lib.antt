pub mod Agreeing
pub mod Halting
pub mod Journals
pub mod Runs
pub mod Serving
pub mod Stopping
