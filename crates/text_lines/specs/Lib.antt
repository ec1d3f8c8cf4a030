-- What a reader reads, in this order: the lines of a text, what the ends of reading are to others, who
-- takes lines, how a text is read, and in which turns.
pub mod Texts
pub mod Ends
pub mod Moments
pub mod Reading
pub mod Turns
pub mod inside
