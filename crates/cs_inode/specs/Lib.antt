pub mod Answers
pub mod Calls
pub mod Inodes
pub mod Reports
pub mod Said
