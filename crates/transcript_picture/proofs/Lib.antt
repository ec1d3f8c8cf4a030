mod Ending
mod Taking
mod Alike
pub mod Public
