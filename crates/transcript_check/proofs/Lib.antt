mod Ends
mod Telling
mod Puts
mod Bound
mod Undone
mod Saks
mod Steps
mod Clean
mod OneGroup
mod Passing
mod AllFit
mod TextLines
mod Lines
mod OneRefusal
mod Ending
pub mod Public
