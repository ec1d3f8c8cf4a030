pub mod Blocks
pub mod Pieces
pub mod Doubling
pub mod Chain
mod Examples
