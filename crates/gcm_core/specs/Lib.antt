pub mod Blocks
pub mod Ghash
pub mod Gcm
pub mod inside
