-- What a reader reads first. The words are those of the schedule of one group: lines perform *acts*
-- in a *world*, what an act leaves is a *course*, and what events show is told as *reports*. Here the
-- world has a *twin run*, of two groups in which the same stations take part, and nothing is left to
-- chance. The files stand in this order: what lines have made, what can be performed, which line is
-- refused, what a line performs, what is sound, what is told, what a call did of an act, and for
-- which world a replay stands.
pub mod World
pub mod Acts
pub mod Kinds
pub mod Lines
pub mod Sound
pub mod Reports
pub mod Ends
pub mod Stages
pub mod Standing
pub mod inside
