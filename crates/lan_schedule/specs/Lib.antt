-- What a reader reads first. A *world* is what the lines so far have made: a *run* of the group and
-- what is kept beside it. A line performs an *act* of `trace_acts`. An *event* is a start, a tick,
-- a delivery, a restart, a claim, an emission or an injection; it shows *facts*, by which the run
-- grows, and they are reported before the next one happens. A *course* goes on from a world, or
-- stops in one and says why. What the schedule of threads decides is a list of *chances* in the
-- world, taken from its head. A *moment* of a call is the value that performs, and the outlet that
-- is told the reports. What lines choose and name, the draws and the links stand in `trace_acts`.
-- The files stand in this order: what races are, what lines have made, what can be performed, what a
-- line is, which line is refused, what a line performs, what is sound, what is told, what a call did of an act,
-- what slot words show, what a race is woven of, and what a call promises.
pub mod Races
pub mod World
pub mod Numbers
pub mod Answers
pub mod Acts
pub mod Deeds
pub mod Kinds
pub mod Lines
pub mod Sound
pub mod Reports
pub mod Ends
pub mod Stages
pub mod Standing
pub mod Shown
pub mod Woven
pub mod Calls
pub mod inside
