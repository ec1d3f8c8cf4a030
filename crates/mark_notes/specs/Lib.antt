pub mod Marks
pub mod Standing
pub mod inside
