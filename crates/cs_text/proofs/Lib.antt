pub mod Decimals
pub mod HexPairs
pub mod Newlines
