pub mod Apart
pub mod Merging
pub mod Pieces
pub mod Queues
