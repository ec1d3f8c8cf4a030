pub mod Frames
pub mod Once
pub mod Uses
pub mod Standing
pub mod inside
pub mod changes
