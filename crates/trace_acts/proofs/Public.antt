-- What other crates may cite of the proofs: what lines say and name, and what holds of all acts.
pub use Rattle.trace_acts.proofs.Acting.{each-append, each-end, each-err, each-step, handed-on}
pub use Rattle.trace_acts.proofs.Acting.{IsInTurn, Leads}
pub use Rattle.trace_acts.proofs.Acting.{leads-end, leads-err, leads-start, leads-step, span-end}
pub use Rattle.trace_acts.proofs.Acting.{span-done, span-exit, span-next, span-start, span-step}
pub use Rattle.trace_acts.proofs.Coming.{comes-each, comes-span, comes-unless, going}
pub use Rattle.trace_acts.proofs.Coming.{halfway, is-going, Lasts, later, world-in}
pub use Rattle.trace_acts.proofs.Drawing.{bytes-all, chosen-draws, counted-draws, taken-draws}
pub use Rattle.trace_acts.proofs.Finding.{find-gather, find-more}
pub use Rattle.trace_acts.proofs.OnWay.{as-append, as-left, begins-start, IsAs, way-begins, way-begun}
pub use Rattle.trace_acts.proofs.OnWay.{way-front, way-start}
pub use Rattle.trace_acts.proofs.Placing.{any-map, place-there, place-within, taken-none, taken-sci}
pub use Rattle.trace_acts.proofs.Refusing.{allowed-then, not-false, or-none, station-later}
pub use Rattle.trace_acts.proofs.Refusing.{unbegun-by, where-none}
pub use Rattle.trace_acts.proofs.Showing.{and-longer, grows, Stays, then-begins}
pub use Rattle.trace_acts.proofs.Stations.{map-map-scis, new-station}
pub use Rattle.trace_acts.proofs.Telling.{begins-self, begins-then, told-both, told-none, told-then}
pub use Rattle.trace_acts.proofs.Users.{user-at-end}
