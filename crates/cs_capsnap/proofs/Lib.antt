pub mod Alone
pub mod Changes
pub mod Order
pub mod Places
pub mod Steps
pub mod Unacked
