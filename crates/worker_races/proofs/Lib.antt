pub mod Seating
pub mod Hands
pub mod Spent
pub mod Pointing
pub mod Words
pub mod Gone
pub mod BackIn
pub mod Races
pub mod Claims
pub mod CaughtUp
pub mod NoNumber
pub mod Sealed
pub mod GoesOn
pub mod KeysNew
pub mod CardsOn
pub mod Carded
pub mod CardsBehind
mod Examples
mod Cases
mod FirstKey
mod WordsExample
mod TwoStations
pub mod BesideExample
mod RolloverWords
mod RolloverExample
pub mod weaving
pub mod Public
