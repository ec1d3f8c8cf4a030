-- A run that meets the premises of the laws, event by event.
pub mod Scene
pub mod Moves
pub mod Run
pub mod Sayable
pub mod Good
pub mod Steps
pub mod Rolling
pub mod Rolled
pub mod Each
