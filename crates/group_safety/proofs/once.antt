-- In this order each file rests on those above it: lists, the ledgers and their six changes, the
-- invariant and what it gives; then facts, histories, the rules of a station, ciphers and frames;
-- and for each event of a run the changes that show it.
pub mod Places
pub mod Ledgers
pub mod Currents
pub mod Invariant
pub mod ChangesKeep
pub mod OneKeyEach
pub mod Gists
pub mod Histories
pub mod LiveHeard
pub mod KeysSound
pub mod Rules
pub mod Ciphers
pub mod Frames
pub mod Ticking
pub mod Hearing
pub mod Origins
pub mod Carried
pub mod Nexts
pub mod Books
pub mod Living
pub mod Stepping
pub mod EventsKeepKnown
pub mod TickKept
pub mod ReachKept
pub mod StartKept
pub mod ClaimKept
pub mod RunLaws
