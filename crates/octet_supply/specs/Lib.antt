-- What a reader reads, in this order: what a supply has taken of a text and given out, and what each call
-- does; and when it asks for more.
pub mod Supplying
pub mod Asking
pub mod inside
