pub mod Names
pub mod Work
pub mod Frames
pub mod Results
