-- In this order: who takes part, and which keys there are; events as they are told; the life of a
-- station by what is told; the lines of a script; and the two rollovers.
pub mod Group
pub mod Deeds
pub mod Lives
pub mod Script
pub mod Rows
