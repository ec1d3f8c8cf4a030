pub mod Examples
pub mod Ties
pub mod Keeping
pub mod Missed
pub mod InTurn
pub mod Public
