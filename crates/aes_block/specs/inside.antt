pub mod Held
pub mod Tables
pub mod Halves
pub mod RoundKeys
