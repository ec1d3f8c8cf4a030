-- Definitions that serve private functions alone. No public clause cites one.
pub mod Steps
pub mod Firsts
pub mod Sets
pub mod Missing
