pub mod OptionFound
pub mod PagesRead
pub mod RunLine
