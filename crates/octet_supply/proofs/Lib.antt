pub mod Supplies
pub mod Asking
pub mod Asked
pub mod Public
