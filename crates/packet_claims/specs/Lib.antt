-- What a claim did; and what it gives where no other seat is out.
pub mod Claims
pub mod Alone
pub mod inside
