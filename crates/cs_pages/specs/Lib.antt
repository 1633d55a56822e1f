pub mod Example
pub mod Life
pub mod Page
pub mod Pages
