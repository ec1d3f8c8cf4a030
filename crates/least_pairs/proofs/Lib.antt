mod Least
mod Verdicts
mod Examples
pub mod Public
