pub mod Elected
pub mod Eligible
pub mod Least
pub mod Order
pub mod Pairs
mod Examples
