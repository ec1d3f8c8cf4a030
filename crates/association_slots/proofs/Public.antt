-- What other crates may cite of the proofs.
pub use Rattle.association_slots.proofs.Grows.{is_present}
pub use Rattle.association_slots.proofs.Lists.{at_cons_if, behind_cons_if, in_append, in_cons_if, in_left, in_right, weigh-append, weigh_none}
pub use Rattle.association_slots.proofs.StaysSettled.{once, slot_set}
