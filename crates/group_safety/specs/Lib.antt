-- What a reader reads: one use of each packet number and one key under each identifier; then
-- moments and rounds of a run, what a station is then, steady rollovers, frames in time for them,
-- and hitless rollover; what transmits at a station; and two rollovers that are worked out.
pub mod Once
pub mod Moments
pub mod Rounds
pub mod Stations
pub mod Steady
pub mod Time
pub mod Hitless
pub mod Transmitting
pub mod Accounts
pub mod worked
