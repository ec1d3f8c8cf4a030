pub mod Numbered
pub mod Octets
pub mod Steps
pub mod Leading
pub mod Unwrapping
pub mod OneKey
pub mod Public
