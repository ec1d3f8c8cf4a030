-- A missed flag, computed: bob keeps the old key, and never begins the new one. So the rollover is
-- not steady, whatever the lag.
use Rattle.std.proofs.Common.{◌≡◌, refl, inl, inr, ℕ, suc, true, length, arith}
use Rattle.std.specs.Prelude.{nat_lt}
use Rattle.std.specs.List.{list_all}
use Rattle.peer_lists.specs.Acceptance.{Accepted, refusal, accepted, outcome}
use Rattle.peer_lists.specs.Peers.{says, hopes, known}
use Rattle.sak_exchange.specs.declared.change.Cause.{Cause}
use Rattle.sak_exchange.specs.Held.{received, latest, old, transmitting}
use Rattle.mka_station.specs.Lives.{peers_of, keys_of, elected}
use Rattle.mka_station.specs.Views.{view}
use Rattle.mka_station.specs.Tick.{tick_turn}
use Rattle.lan_core.specs.Run.{Happening, stations}
use Rattle.lan_core.specs.Ledgers.{installs}
use Rattle.group_safety.specs.Moments.{upto}
use Rattle.group_safety.specs.Rounds.{pace, rounds}
use Rattle.group_safety.specs.Steady.{Begins, IsKeeper, IsSteady}
use Rattle.group_safety.proofs.Members.{In, contains-in}
use Rattle.group_safety.proofs.example.Each.{each-at, each-passes, begins_no_second}
use Rattle.group_safety.proofs.example.Each.{no-second-begins}
use Rattle.group_safety.specs.worked.Group.{settings, id, bob}
use Rattle.group_safety.specs.worked.Lives.{heard_by, life_by}
use Rattle.group_safety.specs.worked.Script.{tick, deliver, begin, send, spread, round, flow}
use Rattle.group_safety.specs.worked.Rows.{since, missed_story, missed_deeds, missed, missed_rollover}
use Rattle.group_safety.proofs.told.Framing.{is_bare}
use Rattle.group_safety.proofs.told.Lived.{is_readable}
use Rattle.group_safety.proofs.told.Steadily.{deed_at, told_upto, words_then, is_keeper, first_word}
use Rattle.group_safety.proofs.told.Steadily.{keeper-is}

unfoldable opens : ℕ
unfolding refusal accepted outcome says hopes known received latest old transmitting peers_of
    keys_of elected view tick_turn stations installs heard_by life_by tick deliver begin send spread
    round flow missed_story missed_deeds told_upto deed_at rounds pace upto
opens = 0

-- alice makes the second key, bob says that he receives it, and alice begins it

abbrev made : ℕ
made = 41

abbrev pub bob_said : ℕ
bob_said = 49

abbrev start : ℕ
start = 55

abbrev pub word : Accepted
word = first_word (words_then (missed_rollover 0) missed_deeds)

-- all that is computed of the row, at once
record Computed : Type 0 where
  bare : list_all is_bare missed_deeds ≡ true
  readable : list_all is_readable missed_deeds ≡ true
  some_word : nat_lt 0 (length (words_then (missed_rollover 0) missed_deeds)) ≡ true
  keeper : is_keeper 1 bob_said (id 1) word missed_deeds ≡ true
  bob_here : In bob (stations missed)
  never : list_all begins_no_second missed ≡ true
  begun_in : rounds since (upto (suc start) missed) ≡ 3
  ended_in : rounds since missed ≡ 33

computed : Computed
unfolding opens
computed = record {
  bare = refl;
  readable = refl;
  some_word = refl;
  keeper = refl;
  bob_here = inr (inl refl);
  never = refl;
  begun_in = refl;
  ended_in = refl;
}

pub keeps : (lag : ℕ) → IsKeeper settings missed (missed_rollover lag) 1 bob_said word
keeps lag =
    keeper-is (missed_rollover lag) 1 bob_said missed_deeds refl computed.bare computed.readable
    computed.bob_here computed.some_word computed.keeper

abbrev IsNoBeginning : ℕ → Happening → Type 0
IsNoBeginning n x = begins_no_second x ≡ true

pub never-begins : (x : ℕ) (cause : Cause) → Begins missed x 1 (id 2) cause → ⊥
never-begins x cause b =
    no-second-begins b.event
    (each-at IsNoBeginning missed
    (each-passes IsNoBeginning begins_no_second (λ n y none. none) missed computed.never) x b.event
    b.at
    b.within)
    b.an b.epoch cause (contains-in b.event.facts _ b.fact)

pub not-steady : (lag : ℕ) → ¬ (IsSteady settings missed (missed_rollover lag))
not-steady lag s =
    let short = s.lag_short in
    let begun_in = computed.begun_in in
    let ended_in = computed.ended_in in
    let b = s.begun 1 bob_said word (keeps lag) (omega (arith, short, begun_in, ended_in)) in
    never-begins b.0 b.1 b.2
