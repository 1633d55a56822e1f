pub mod Words
pub mod Seats
pub mod RuleKept
pub mod MovesKept
pub mod Theorems
pub mod Crossing
