pub mod Columns
pub mod inside
