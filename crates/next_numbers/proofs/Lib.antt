-- Lemmas on next packet numbers and on claims that wait.
mod Counting
mod Bounds
mod Turns
mod Awaiting
pub mod Public
