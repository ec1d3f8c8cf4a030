pub mod Histories
pub mod Acceptance
pub mod Peers
pub mod Listings
pub mod Table
pub mod Showing
pub mod inside
