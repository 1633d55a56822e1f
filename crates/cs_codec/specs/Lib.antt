pub mod Codecs
pub mod Fields
