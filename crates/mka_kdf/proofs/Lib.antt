pub mod Lengths
pub mod Public
