-- What other crates may cite of the proofs.
pub use Rattle.octet_supply.proofs.Supplies.{IsAhead, IsBehind, no-octets, stands-new, take-behind, within, within-held}
