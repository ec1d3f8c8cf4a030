pub mod Frames
pub mod Given
pub mod Groups
pub mod Kinds
pub mod Right
pub mod Trials
