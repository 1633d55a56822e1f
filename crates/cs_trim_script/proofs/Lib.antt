pub mod Linewise
pub mod Places
