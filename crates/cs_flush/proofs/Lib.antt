pub mod Lives
pub mod Retired
pub mod Rising
