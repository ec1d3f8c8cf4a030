mod Written
mod Telling
mod Ending
mod Turning
mod Playing
mod Weaker
pub mod twin_runs
pub mod Public
