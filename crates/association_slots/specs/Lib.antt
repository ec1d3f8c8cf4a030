-- What a reader reads, in this order: the layout of the words, what the threads know, the cards,
-- how each step changes what is known, the rule, what control learns, and what the calls tell.
pub mod Words
pub mod Views
pub mod Cards
pub mod Steps
pub mod Rule
pub mod Learned
pub mod Told
pub mod inside
