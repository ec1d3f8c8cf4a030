mod Places
mod Runs
mod OneLine
mod Course
mod OneTaken
mod Reaching
mod Turning
mod Instances
pub mod Ticking
mod Examples
pub mod Public
