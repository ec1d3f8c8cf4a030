-- How often a number is claimed; how the words of a station tell its account, and then those of all
-- stations a run; and how they change as seats go out and come back.
pub mod Counting
pub mod Telling
pub mod Shown
pub mod Ties
pub mod Seats
pub mod inside
