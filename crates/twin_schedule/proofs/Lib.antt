mod Doing
mod Told
mod Looking
mod Users
mod Coming
mod LinesCome
mod Happening
mod Moving
mod Replaying
mod Refusing
mod Opening
mod EachLine
mod TidyWorlds
mod Stopping
mod Examples
pub mod Public
