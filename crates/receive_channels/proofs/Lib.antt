pub mod Members
pub mod Placing
pub mod Equal
pub mod Received
pub mod StillSteps
pub mod Remembered
pub mod Few
mod Examples
