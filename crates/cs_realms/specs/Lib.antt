pub mod Changes
pub mod Example
pub mod Renewals
pub mod Table
