mod Bytes
mod Kept
mod Ordered
mod Sent
