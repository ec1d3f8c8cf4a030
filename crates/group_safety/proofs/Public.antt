-- What other crates may cite of the proofs.

-- What stands in a list, by recursion over it.
pub use Rattle.group_safety.proofs.Members.{In, contains-in, in-any, in-contains, in-either, in-left, in-right, in-map}
pub use Rattle.group_safety.proofs.Members.{in-from_map}
pub use Rattle.group_safety.proofs.once.Places.{differs-in, same-place}
pub use Rattle.group_safety.proofs.once.LiveHeard.{in-find}
-- The stations of the examples, and a run of them: alice starts, and then bob.
pub use Rattle.group_safety.specs.worked.Group.{settings, mi, alice, bob}
pub use Rattle.group_safety.proofs.example.Run.{users}
pub use Rattle.group_safety.proofs.Examples.{bob_starts}
-- What an event of a stepped run is, and what it is to each station.
pub use Rattle.group_safety.proofs.rollover.EventKinds.{Kind, kind, IsReached, IsBirth, Part, part}
pub use Rattle.group_safety.proofs.rollover.EventKinds.{starts, ticks, reached, restarts, claims, emits}
pub use Rattle.group_safety.proofs.rollover.EventKinds.{delivered, injected, first, again, same, hears, born}
pub use Rattle.group_safety.proofs.rollover.Shows.{claims-by}
pub use Rattle.group_safety.proofs.rollover.Listeners.{life-ticked}
-- What a turn adds to the keys of a life, by the rules of a station.
pub use Rattle.group_safety.proofs.once.Histories.{with_key, with_began, view-keys, keys-ticked, keys-heard, keys-installed}
pub use Rattle.group_safety.proofs.rollover.Begins.{led-is, making-is, following-is}
pub use Rattle.group_safety.proofs.rollover.Turns.{IsTurn, with_tick, kept-turn, news, turn-new}
pub use Rattle.group_safety.proofs.rollover.Turns.{tick-keys, hear-keys, tick-is_turn, hear-is_turn}
-- What the keys of a life that keeps the rules have.
pub use Rattle.group_safety.proofs.rollover.KeyFacts.{received-installed, transmitting-last, transmits-later}
pub use Rattle.group_safety.proofs.rollover.Leads.{one-epoch}
-- Facts that come one after the other move what transmits one after the other.
pub use Rattle.group_safety.proofs.moves.Moving.{follow-append}
-- The next number of an account is that of the run. Where events are exact, next numbers grow by
-- claims.
pub use Rattle.group_safety.proofs.moves.Accounting.{next-told}
pub use Rattle.group_safety.proofs.moves.Growing.{few}
-- A run of two stations: what holds of it once the first one transmits, and after the next event,
-- in which the other one begins the same key. And what no next number is above.
pub use Rattle.group_safety.proofs.example.Scene.{Scene, goes-on, most_next, next-most}
pub use Rattle.group_safety.proofs.example.Good.{sak_is, sci_is}
pub use Rattle.group_safety.proofs.example.Moves.{claim-moves, new-short}
pub use Rattle.group_safety.proofs.once.Ciphers.{encrypts}
pub use Rattle.group_safety.proofs.example.Run.{first_key, r11}
pub use Rattle.group_safety.proofs.example.Rolling.{r12}
pub use Rattle.group_safety.proofs.example.Rolled.{l12}
pub use Rattle.group_safety.proofs.example.Steps.{both, a-user, l11}
unfoldable pub use Rattle.group_safety.proofs.example.Steps.{opens}
pub use Rattle.group_safety.proofs.SteadyExample.{v11, v12}
-- And a run of them in which the first one goes from one key to the next, up to that event.
pub use Rattle.group_safety.proofs.example.Run.{second_key, r14, r16, r17, r18, r19, r20, r21}
pub use Rattle.group_safety.proofs.example.Steps.{l20, l21}
pub use Rattle.group_safety.proofs.Examples.{v16, v20, v21}
-- A legal run of them in which a rollover ends: the first key is retired.
pub use Rattle.group_safety.proofs.RetireExample.{retiring, retires}
-- A stepped and unforged run is known: what holds of its lives, of its frames and of its ledgers.
pub use Rattle.group_safety.proofs.once.RunLaws.{known, place-apart, run-drawn, run-once, run-one_key}
pub use Rattle.group_safety.proofs.once.ChangesKeep.{holds}
pub use Rattle.group_safety.proofs.once.Invariant.{Inv}
pub use Rattle.group_safety.proofs.once.Ledgers.{book, current, mis}
pub use Rattle.group_safety.proofs.once.Living.{IsKnown, IsLiving, IsTold, install_by, kek-key}
pub use Rattle.group_safety.proofs.once.Origins.{IsSaid, IsSaidAt}
pub use Rattle.group_safety.proofs.once.Currents.{current-apart, in-mis, none-some, some-same}
pub use Rattle.group_safety.proofs.once.Histories.{heard_of, sent-before, sent-heard, sent-some, told_of}
pub use Rattle.group_safety.proofs.once.LiveHeard.{accepted-told, live-accepted}
pub use Rattle.group_safety.proofs.once.KeysSound.{AreSound, IsKeyIn, installed-key, last-made, latest-installed, latest-last, made-own, old-installed, transmitting-installed}
pub use Rattle.group_safety.proofs.once.Rules.{IsGiving, IsMade, given-is, key_heard, made-is, said-now}
pub use Rattle.group_safety.proofs.once.Ticking.{IsReady, IsSpeaker, announced-next, said-spells, tick-sound, tick_key, tick_lead, tick_lowest, tick_roster, turn-past}
pub use Rattle.group_safety.proofs.once.Hearing.{hear-past}
pub use Rattle.group_safety.proofs.once.EventsKeepKnown.{drawn-secret, seen-small, tick-backed, tick-gist}
pub use Rattle.group_safety.proofs.once.TickKept.{speaker-of}
pub use Rattle.group_safety.proofs.once.ClaimKept.{protected-is_sec}
-- What the facts of an event add to the ledgers of a run.
pub use Rattle.group_safety.proofs.once.Gists.{IsGist, installed_at, sent_frame}
pub use Rattle.group_safety.proofs.once.Nexts.{air-next, chained, claimed-next, drawn-is, drawn-next, gather-behind, get-more, in-gathered, in-get, in-later, life-next, installs-next, makes-next, makes-same, mapped}
