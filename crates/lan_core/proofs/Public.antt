-- What other crates may cite of the proofs.
pub use Rattle.lan_core.proofs.Fronts.{front-fresh, front-stepped, front-unforged, never-falls, stays-passed}
pub use Rattle.lan_core.proofs.MoreUsers.{legal-more, stands-more}
pub use Rattle.lan_core.proofs.FramesNumbered.{air-numbered, chained, mapped, number-frame}
pub use Rattle.lan_core.proofs.DrawsShown.{mi-shown, needed-draws-count, restart-is-within, sak-shown-by}
pub use Rattle.lan_core.proofs.DrawsShown.{tick-takes}
pub use Rattle.lan_core.proofs.FreshBeside.{fresh-beside, step-well}
pub use Rattle.lan_core.proofs.RestartGoesOn.{mi-noted}
pub use Rattle.lan_core.proofs.TickGoesOn.{tick-noted}
pub use Rattle.lan_core.proofs.LivesUnchanged.{claims-change-none, others-change-none}
pub use Rattle.lan_core.proofs.Reactions.{gather-append, gather-reaction, gather-unread, passed-over, reaction-air, sending}
pub use Rattle.lan_core.proofs.SuppliedDraws.{counts-are, streamed-are}
pub use Rattle.lan_core.proofs.EachInALife.{in-a-life}
pub use Rattle.lan_core.proofs.StaysThrifty.{stays-thrifty}
pub use Rattle.lan_core.proofs.StationsKept.{same-scis}
pub use Rattle.lan_core.proofs.UnstoppedSteps.{fresh, is-step, legal, unforged}
pub use Rattle.lan_core.proofs.ChecksStay.{checked-later}
pub use Rattle.lan_core.proofs.EpochsCount.{lives-count}
pub use Rattle.lan_core.proofs.FirstFacts.{AreOther, IsClaim, is-claim, excused-other}
pub use Rattle.lan_core.proofs.ExcusesStay.{stays-excused}
pub use Rattle.lan_core.proofs.Alike.{TellsClaim, alike-itself, alike-claim, alike-event, tells-claim, transmits-same, expected-same, within-same}
pub use Rattle.lan_core.proofs.SettledPart.{alike-part, claim-alike, claimed-part, stepped-front}
