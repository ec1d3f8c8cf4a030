-- The seat of a station goes on with what the station does.
use Rattle.std.proofs.Common.{◌≡◌, ◌∙◌, ◌+◌, ◌≤◌, ℕ, ◌&&◌, List, [], ◌∷◌, Result, Ok, Err, ap, sym, subst, arith}
use Rattle.std.specs.Prelude.{OnErr, OnOk}
use Rattle.aes_block.specs.declared.secret.Secret.{Secret}
use Rattle.mkpdu_codec.specs.declared.announcement.Announcement.{Announcement}
use Rattle.peer_lists.specs.Histories.{clock, last_sent}
use Rattle.rx_slots.specs.Histories.{Receiving}
use Rattle.rx_slots.specs.Standing.{StandsFor as SlotsStandFor}
use Rattle.sak_exchange.specs.declared.change.Change.{Change}
use Rattle.sak_exchange.specs.declared.due.Seen.{Seen}
use Rattle.mka_station.specs.Lives.{Member, peers_of, keys_of}
use Rattle.mka_station.specs.Tick.{tick_turn}
use Rattle.mka_station.specs.Hearing.{heard_turn, hear_turn}
use Rattle.mka_station.specs.declared.verdict.DropReason.{DropReason}
use Rattle.mka_station.specs.Standing.{StandsFor as StationStandsFor}
use Rattle.lan_core.specs.Lives.{Life, lived, lived_ticking, seen_at, slot_change, turn_at_tick}
use Rattle.lan_core.specs.Standing.{Seat, Sits, IsAlive}
use Rattle.lan_core.specs.inside.Following.{followed, count_installed}
use Rattle.lan_core.specs.declared.fact.Fact.{Fact}
use Rattle.lan_core.specs.declared.fact.Fact.TheVariants as facts
use Rattle.lan_core.specs.declared.settings.Settings.{Settings}
use Rattle.lan_core.specs.Run.{Run}
use Rattle.lan_core.specs.Ledgers.{gather, next_frame}
use Rattle.lan_core.specs.Expected.{reaction_facts, tick_facts}
use Rattle.mka_station.specs.declared.reaction.Reaction.{Reaction}
use Rattle.lan_core.proofs.SlotsFollow.{slots-follow, tick-count, tick-clock, heard-count, heard-clock, heard-sent}

pub on-ok : {A E P : Type 0} (r : Result A E) → P → OnOk r P
on-ok (Ok a) holds = holds
on-ok (Err e) holds = tt

pub on-err : {A E P : Type 0} (r : Result A E) → P → OnErr r P
on-err (Ok a) holds = tt
on-err (Err e) holds = holds

-- a seat that sits is alive, and one that is alive sits where its slots stand
pub alive : (window : ℕ) (l : Life) (h : List Receiving) (seat : Seat) → Sits window l h seat → IsAlive l seat
alive window l h seat s = record { station = s.station; ticks = s.ticks; sent = s.sent; installs = s.installs }

pub sits-with : (window : ℕ) (l : Life) (h : List Receiving) (seat : Seat) → IsAlive l seat
    → SlotsStandFor l.member.setup.sci window seat.slots h → Sits window l h seat
sits-with window l h seat a slots = record { station = a.station; slots = slots; ticks = a.ticks; sent = a.sent; installs = a.installs }

-- a life begins
pub alive-new : (m : Member) (seat : Seat) → StationStandsFor m seat.station [] → seat.ticks ≡ 0 → seat.installs ≡ m.base
    → IsAlive (record { member = m; past = [] }) seat
unfolding peers_of keys_of
alive-new m seat stands ticks installs = record {
  station = stands;
  ticks = ticks;
  sent = omega (arith, ticks);
  installs = omega (arith, installs);
}

-- a life goes on with a tick
pub alive-ticked : (l : Life) (old new : Seat) (seen : Seen) (sak : Secret) (cs : List Change)
    → IsAlive l old → StationStandsFor l.member new.station (tick_turn l.member seen sak l.past).past
    → cs ≡ (tick_turn l.member seen sak l.past).reaction.changes
    → new.ticks ≡ old.ticks + 1 → new.installs ≡ old.installs + count_installed cs
    → last_sent (peers_of l.member (tick_turn l.member seen sak l.past).past) ≤ last_sent (peers_of l.member l.past) + 1
    → IsAlive (lived l (tick_turn l.member seen sak l.past)) new
alive-ticked l old new seen sak cs s stands is ticks installs sent = record {
  station = stands;
  ticks = omega (arith, ticks, s.ticks, tick-clock l.member seen sak l.past);
  sent = omega (arith, ticks, s.sent, sent);
  installs = omega (arith, installs, s.installs, ap count_installed is, tick-count l.member seen sak l.past);
}

-- a life goes on with a frame that is heard
pub alive-heard : (l : Life) (old new : Seat) (j : Result Announcement DropReason) (cs : List Change)
    → IsAlive l old → StationStandsFor l.member new.station (heard_turn l.member j l.past).past
    → cs ≡ (heard_turn l.member j l.past).reaction.changes
    → new.ticks ≡ old.ticks → new.installs ≡ old.installs + count_installed cs
    → ((a : Announcement) → last_sent (peers_of l.member (hear_turn l.member a l.past).past) ≡ last_sent (peers_of l.member l.past))
    → IsAlive (lived l (heard_turn l.member j l.past)) new
alive-heard l old new j cs s stands is ticks installs silent = record {
  station = stands;
  ticks = omega (arith, ticks, s.ticks, heard-clock l.member j l.past);
  sent = omega (arith, ticks, s.sent, heard-sent l.member j l.past silent);
  installs = omega (arith, installs, s.installs, ap count_installed is, heard-count l.member j l.past);
}

-- what a tick shows
pub tick-told : (settings : Settings) (s : ℕ) (r : Run) (l : Life) (next : ℕ) (sak : Secret) (reaction : Reaction) (number clocked : ℕ) (shown : List Fact)
    → reaction ≡ (turn_at_tick settings s r l next sak).reaction → number ≡ next_frame r
    → clocked ≡ clock (peers_of l.member l.past) + 1 → shown ≡ facts.Ticked s clocked next ∷ reaction_facts s 0 number reaction
    → shown ≡ tick_facts settings s r next sak l
tick-told settings s r l next sak reaction number clocked shown is numbered counted tells =
    tells ∙ (λ i. facts.Ticked s (counted i) next ∷ reaction_facts s 0 (numbered i) (is i))

-- the clock after a tick
pub clock-told : (settings : Settings) (s : ℕ) (r : Run) (l : Life) (next : ℕ) (sak : Secret) (h : List Receiving) (seat : Seat)
    → Sits settings.window (lived_ticking settings s r next sak l) h seat → seat.ticks ≡ clock (peers_of l.member l.past) + 1
clock-told settings s r l next sak h seat sits = sits.ticks ∙ tick-clock l.member (seen_at settings s r l next) sak l.past

-- the slots after a reaction
pub leaves : (window : ℕ) (l : Life) (s hearing sending : ℕ) (h : List Receiving) (reaction turn : Reaction) (seat : Seat)
    → reaction ≡ turn → Sits window l (followed reaction.changes h) seat → Sits window l (gather (slot_change s) (reaction_facts s hearing sending turn) h) seat
leaves window l s hearing sending h reaction turn seat is sits =
    subst (λ (g : List Receiving). Sits window l g seat) (ap (λ (x : Reaction). followed x.changes h) is ∙ sym (slots-follow s hearing sending turn h)) sits
