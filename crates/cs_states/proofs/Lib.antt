mod Counts
mod Picks
pub mod Listed
