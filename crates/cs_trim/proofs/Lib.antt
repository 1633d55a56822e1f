pub mod Fitting
pub mod Holding
pub mod Reading
pub mod Standing
pub mod States
pub mod Statuses
pub mod Trimming
