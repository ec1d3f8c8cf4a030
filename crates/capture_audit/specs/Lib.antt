-- What a reader reads, in this order: what is known before a packet; what is told of a key that it
-- gives; what a packet is; what is told of all; how reading ends, and how an audit does; and what the
-- laws speak of.
pub mod Before
pub mod Giving
pub mod Findings
pub mod Telling
pub mod Reading
pub mod Ends
pub mod Views
pub mod Laws
pub mod inside
