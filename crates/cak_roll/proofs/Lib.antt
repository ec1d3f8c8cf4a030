-- Laws of twin runs.
pub mod Twins
pub mod Sends
pub mod Legals
mod Thrifts
pub mod Refusals
pub mod Overs
pub mod Merges
pub mod Among
pub mod Supplies
pub mod Adopted
pub mod JoinedRun
pub mod PartSteps
pub mod PartsOn
pub mod Ready
pub mod UnstoppedTwins
pub mod Traced
pub mod SideStops
pub mod SideGoes
pub mod TurnStops
pub mod TurnGoes
pub mod Restarts
pub mod ReadyParts
pub mod TwinGoes
pub mod Lone
pub mod TwinBegins
pub mod MembersFollow
pub mod Acts
pub mod Performing
mod Examples
pub mod Public
