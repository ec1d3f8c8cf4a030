-- Where the claims of that race stand: the part that the merged list gives, which is woven of control
-- and the logs; and parts that are not it.
use Rattle.std.proofs.Common.{◌≡◌, ℕ, List, [], ◌∷◌, refl, ap, ◌∙◌, arith, map}
use Rattle.std.specs.Prelude.{false}
use Rattle.lan_core.specs.declared.event.Event.{Event}
use Rattle.lan_core.specs.declared.event.Event.TheVariants as events
use Rattle.lan_core.specs.declared.fact.Fact.TheVariants as facts
use Rattle.lan_core.specs.declared.fact.Lack.TheVariants as lacks
use Rattle.lan_base.specs.declared.association_number.AssociationNumber.TheVariants.{An0}
use Rattle.lan_core.specs.Run.{Happening, happened}
use Rattle.group_safety.proofs.Public.{settings, r11, r12}
use Rattle.packet_claims.specs.declared.answers.NoClaim.TheVariants.{NoKey}
use Rattle.data_workers.specs.declared.entry.Entry.TheVariants.{Refused}
use Rattle.worker_races.specs.merge.Places.{Move, ends, place}
use Rattle.worker_races.specs.merge.Marks.{Mark, Control, Claim}
use Rattle.worker_races.specs.merge.Ranks.{in_order}
use Rattle.worker_races.specs.merge.Merged.{entries_of, merged, numbered}
use Rattle.worker_races.specs.merge.Raced.{epoch_at, epoch_of}
use Rattle.worker_races.specs.merge.Steps.{attempt_of, logs_of}
use Rattle.worker_races.specs.merge.Weaving.{IsWoven, part_of}
use Rattle.worker_races.proofs.weaving.RaceExample.{ans, bob-sends, bob-waits, frame, logs, moves, newest, pointed, raced, twice}
use Rattle.worker_races.proofs.weaving.WovenRun.{race-woven}

-- ---- the merged list

-- the step in which bob begins_key the key
abbrev pub begins_key : ℕ → ℕ → Move
begins_key before after = record {
  x = newest r12;
  station = 1;
  before = before;
  after = after;
  shown = 0;
  gap = false;
}

one-step : moves ≡ begins_key 0 1 ∷ []
one-step = ap (λ (n : ℕ). begins_key n (epoch_at settings 1 r12) ∷ []) (ap epoch_of bob-waits)
    ∙ ap (λ (n : ℕ). begins_key 0 n ∷ []) (ap epoch_of bob-sends)

abbrev pub taken : ℕ → ℕ → Mark
taken s pn = Claim (attempt_of s (frame s pn))

abbrev pub refused : Mark
refused = Claim (attempt_of 1 (Refused 1 (NoKey 0)))

-- bob's refusal stands before he begins_key the key, and all else behind it: alice's claims first
pub in-this-order : merged (begins_key 0 1 ∷ []) (entries_of (logs_of 0 logs))
    ≡ refused ∷ Control 0 (begins_key 0 1) ∷ taken 0 1 ∷ taken 0 2 ∷ taken 1 1 ∷ []
unfolding entries_of numbered in_order place ends
in-this-order = refl

-- ---- the part

abbrev part : List Happening
part = part_of settings 0 (merged moves (entries_of (logs_of 0 logs))) r11

abbrev event_of : Happening → Event
event_of h = h.event

these-events : map event_of part
    ≡ events.Claim 1 2 0 ∷ (newest r12).event ∷ events.Claim 0 1 1 ∷ events.Claim 0 1 2
    ∷ events.Claim 1 2 1 ∷ []
these-events =
    ap (λ (ms : List Move). map event_of (part_of settings 0 (merged ms (entries_of (logs_of 0 logs))) r11))
    one-step
    ∙ ap (λ (zs : List Mark). map event_of (part_of settings 0 zs r11)) in-this-order

pub is-woven : IsWoven 0 part (map (λ m. m.x) moves) (logs_of 0 logs)
is-woven = race-woven settings twice 0 ans pointed r11 moves (logs_of 0 logs) raced

-- ---- parts that are not it

abbrev claims : ℕ → ℕ → ℕ → Happening
claims s user pn = happened (events.Claim s user pn) (facts.Claimed s An0 1 pn ∷ [])

abbrev is_refused : Happening
is_refused = happened (events.Claim 1 2 0) (facts.Unclaimed 1 lacks.NoKey ∷ [])

-- two claims of one log that changed places
abbrev pub turned : List Happening
turned = is_refused ∷ newest r12 ∷ claims 0 1 2 ∷ claims 0 1 1 ∷ claims 1 2 1 ∷ []

pub turned-is-not-woven : IsWoven 0 turned (newest r12 ∷ []) (logs_of 0 logs) → ⊥
turned-is-not-woven is =
    let first : events.Claim 0 1 2 ≡ events.Claim 0 1 1 = (is.claims 0).0.event in
    let same : ◌≡◌ {A = ℕ} 2 1 = cc first in omega (arith, same)

-- each log in its order, but bob's claim between those of alice: that is another order of the claims of
-- two stations
abbrev between : List Happening
between = is_refused ∷ newest r12 ∷ claims 0 1 1 ∷ claims 1 2 1 ∷ claims 0 1 2 ∷ []

pub between-is-not-the-part : map event_of between ≡ map event_of part → ⊥
between-is-not-the-part same =
    let both = same ∙ these-events in
    let third : events.Claim 1 2 1 ≡ events.Claim 0 1 2 = cc both in
    let station : ◌≡◌ {A = ℕ} 1 0 = cc third in omega (arith, station)
