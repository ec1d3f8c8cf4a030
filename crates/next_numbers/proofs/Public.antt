-- What other crates may cite of the proofs.
pub use Rattle.next_numbers.proofs.Bounds.{bounded-first, under-bounded, next-positive}
pub use Rattle.next_numbers.proofs.Bounds.{plain-bounded, claim-stays, claim-passes, no-claim-passes}
pub use Rattle.next_numbers.proofs.Bounds.{air-longer, emit-longer}
pub use Rattle.next_numbers.proofs.Awaiting.{waits-then}
pub use Rattle.next_numbers.proofs.Turns.{waiting-framed, stays-in-turn}
