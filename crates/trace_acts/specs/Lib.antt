-- What the lines of a trace choose and name, and what acts are, for one group and for two. What the
-- lines before the first station choose sets what holds for a group, and where its draws come from. A
-- *kind* says why a line is refused; a *halt* says why a trace ends early. A line performs an *act* in
-- a *world*, and what that leaves is a *course*; what acts show is told as *reports*.
pub mod Settings
pub mod Choosing
pub mod Supply
pub mod Names
pub mod Links
pub mod Kinds
pub mod Places
pub mod Halts
pub mod Acts
pub mod Ways
pub mod Tellings
pub mod inside
