pub mod Handing
pub mod Pieces
pub mod Returning
pub mod Turning
pub mod Together
pub mod Few
pub mod Public
mod Examples
