pub mod Protected
pub mod Tags
pub mod Written
pub mod Sealed
