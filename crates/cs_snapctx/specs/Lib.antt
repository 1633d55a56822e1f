pub mod Context
pub mod Contexts
pub mod Records
pub mod Trees
