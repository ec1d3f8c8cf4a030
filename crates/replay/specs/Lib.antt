-- What a reader reads, in this order: what a sink holds after calls, what is shown to it of a run, how
-- a run of a text ends, whoever performs it, and in which turns it is performed, and how a trace of one
-- group is.
pub mod Sinks
pub mod Shown
pub mod Runs
pub mod Turns
pub mod OneGroup
pub mod inside
pub mod twin
