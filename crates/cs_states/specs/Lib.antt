pub mod Deliveries
pub mod Delivery
pub mod Example
pub mod PageLists
pub mod PageState
