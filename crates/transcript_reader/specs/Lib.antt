-- What a reader reads, in this order: the forms of a transcript, what its lines tell, when time moves on,
-- how far lines are counted, who takes their facts, how a transcript is read, in which turns, and what holds of
-- its facts then.
pub mod Forms
pub mod Facts
pub mod Time
pub mod Counting
pub mod Taking
pub mod Transcripts
pub mod Turns
pub mod Reached
pub mod inside
