-- What a reader reads: the next packet number of each station under each epoch, and how far it goes.
pub mod Numbers
pub mod Bounds
pub mod inside
