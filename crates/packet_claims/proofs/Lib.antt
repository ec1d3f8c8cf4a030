pub mod Trying
pub mod Lonely
pub mod Examples
pub mod Public
