-- What each command does, a file a command.
pub mod Run
pub mod Make
pub mod Try
pub mod Check
pub mod Capture
pub mod Dissect
pub mod Roll
pub mod Draw
pub mod Audit
