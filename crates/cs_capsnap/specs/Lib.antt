pub mod CapSnaps
pub mod Example
pub mod Order
