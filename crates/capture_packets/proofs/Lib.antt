pub mod OptionSteps
pub mod Taken
pub mod Framed
pub mod Stepped
pub mod Told
pub mod Telling
pub mod Opened
pub mod FrontFields
pub mod FrontFrames
pub mod FrontSteps
pub mod WholeFronts
pub mod Opens
pub mod Unread
pub mod WrittenRead
pub mod Public
mod Examples
