pub mod Histories
pub mod Answers
pub mod Numbers
pub mod Slots
pub mod Standing
pub mod inside
