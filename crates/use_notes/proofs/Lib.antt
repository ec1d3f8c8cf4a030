mod Counting
mod Firsts
mod Numbers
mod Alikes
mod Judging
mod Putting
mod Listing
mod Fronts
mod Windows
mod Orders
mod Examples
pub mod changing
pub mod Public
