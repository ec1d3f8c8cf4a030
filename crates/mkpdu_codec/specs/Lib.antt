pub mod Offsets
pub mod Sets
pub mod Frames
pub mod Refusals
pub mod Fields
pub mod Reading
pub mod Written
pub mod inside
