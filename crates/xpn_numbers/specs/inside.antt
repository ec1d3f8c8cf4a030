-- Definitions that serve private functions alone. No public clause cites one.
pub mod Keys
