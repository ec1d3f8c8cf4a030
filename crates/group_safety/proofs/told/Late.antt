-- In time and too late, computed: the three stations roll over, steadily. Bob's frame is in time
-- where it reaches alice first, and found; the second time it is too late, and carol is no keeper.
use Rattle.std.proofs.Common.{◌≡◌, ◌≤◌, ◌+◌, refl, sym, ap, ◌∙◌, subst, inl, inr, ℕ, suc, List}
use Rattle.std.proofs.Common.{[], ◌∷◌, Bool, true, false, cond, not, Some, length}
use Rattle.std.proofs.Common.{is_some, arith}
use Rattle.std.specs.Prelude.{◌==◌, ◌&&◌, ◌||◌, nat_le, nat_lt, Contains, option_map}
use Rattle.std.specs.Prelude.{option_and_then}
use Rattle.std.specs.List.{list_all}
use Rattle.std.proofs.lemmas.Bool.{and_parts, leb-true}
use Rattle.lan_base.specs.declared.association_number.AssociationNumber.TheVariants.{An0, An1}
use Rattle.lan_base.specs.declared.key_id.KeyId.{KeyId}
use Rattle.lan_base.specs.Identifiers.{same_mi}
use Rattle.peer_lists.specs.Acceptance.{Accepted, refusal, accepted, outcome}
use Rattle.peer_lists.specs.Peers.{says, hopes, known}
use Rattle.rx_slots.specs.declared.arrival.Arrival.TheVariants as arrivals
use Rattle.sak_exchange.specs.declared.change.Cause.{Cause}
use Rattle.sak_exchange.specs.declared.change.Cause.TheVariants.{All as all_report, Flag as flagged}
use Rattle.sak_exchange.specs.declared.change.Cause.TheVariants.{Timeout as timed_out}
use Rattle.sak_exchange.specs.Held.{received, latest, old, transmitting}
use Rattle.sak_exchange.specs.Reports.{reports_old}
use Rattle.sak_exchange.proofs.Public.{by_test}
use Rattle.mka_station.specs.Lives.{peers_of, keys_of, elected}
use Rattle.mka_station.specs.Views.{view}
use Rattle.mka_station.specs.Tick.{tick_turn}
use Rattle.lan_core.specs.declared.event.Event.TheVariants as events
use Rattle.lan_core.specs.declared.fact.Fact.{Fact}
use Rattle.lan_core.specs.declared.fact.Fact.TheVariants as facts
use Rattle.lan_core.specs.Run.{Happening, stations}
use Rattle.lan_core.specs.Ledgers.{installs, air, emitted}
use Rattle.lan_core.specs.Lives.{Life, keys_in}
use Rattle.lan_core.specs.Claims.{claimed}
use Rattle.group_safety.specs.Moments.{upto}
use Rattle.group_safety.specs.Rounds.{pace, rounds}
use Rattle.group_safety.specs.Stations.{keys_at, keys_of_life}
use Rattle.group_safety.specs.Steady.{Begins, IsUnbroken, Trusts, IsListener, IsKeeper, IsSteady}
use Rattle.group_safety.specs.Time.{IsFlight, IsInTime, IsFound}
use Rattle.group_safety.proofs.Members.{In, contains-in, in-contains, all-in, by_sum}
use Rattle.group_safety.proofs.example.Each.{each-at, each-passes, IsNoRestart, is_no_restart-event}
use Rattle.group_safety.proofs.example.Each.{is_no_restart}
use Rattle.group_safety.specs.worked.Group.{settings, mi, id, sak, bob, user, first_key}
use Rattle.group_safety.specs.worked.Deeds.{Deed, plain, emits, carried}
use Rattle.group_safety.specs.worked.Lives.{heard_by, life_by}
use Rattle.group_safety.specs.worked.Script.{tick, deliver, begin, send, spread, round, flow}
use Rattle.group_safety.specs.worked.Rows.{since, late_story, late_deeds, late, late_rollover}
use Rattle.group_safety.specs.worked.Rows.{late_flight}
use Rattle.group_safety.proofs.told.Framing.{is_bare}
use Rattle.group_safety.proofs.told.Lived.{is_readable}
use Rattle.group_safety.proofs.told.Steadily.{deed_at, deed-at, told_upto, trusts-from}
use Rattle.group_safety.proofs.told.Steadily.{is_trusting_on}
use Rattle.group_safety.proofs.told.Steadily.{is_hushed, Place, is_said_at, sender-is, words_then}
use Rattle.group_safety.proofs.told.Steadily.{listener-word, all-upto, life-upto, happening}
use Rattle.group_safety.proofs.told.Steadily.{facts_in, begins-at, makes-at, is_keeper}
use Rattle.group_safety.proofs.told.Steadily.{first_word, keeper-is, is_tested, each-tested}

unfoldable opens : ℕ
unfolding refusal accepted outcome says hopes known received latest old transmitting peers_of
    keys_of elected view tick_turn stations installs heard_by life_by tick deliver begin send spread
    round flow late_story late_deeds told_upto deed_at rounds pace upto air claimed
opens = 0

-- ---- the moments: alice makes the second key; bob and carol say that they receive it; bob claims;
-- alice begins the key, and bob follows; the frame is delivered to alice, to carol and again

abbrev made : ℕ
made = 41

abbrev bob_said : ℕ
bob_said = 49

abbrev carol_said : ℕ
carol_said = 50

abbrev claim : ℕ
claim = 55

abbrev start : ℕ
start = 57

abbrev follows : ℕ
follows = 60

abbrev first_delivery : ℕ
first_delivery = 62

abbrev to_carol : ℕ
to_carol = 63

abbrev second_delivery : ℕ
second_delivery = 161

-- ---- what is decided

-- where what a live member says to alice was said
abbrev place : Accepted → Place
place w = cond (same_mi w.told.mi (mi 2)) (1, bob_said) (2, carol_said)

abbrev is_kept_by_bob : Accepted → Bool
is_kept_by_bob w = not (reports_old (id 1) w.told.uses) || same_mi w.told.mi (mi 2)

abbrev is_word : Accepted → Bool
is_word w = is_said_at (place w) w.told.mi w.told.mn late_deeds && is_kept_by_bob w

abbrev is_flag : Cause → Bool
is_flag flagged = true
is_flag all_report = false
is_flag timed_out = false

-- bob begins the second key by the flag alone, and in the round of alice's beginning
abbrev begins_well : ℕ → Fact → Bool
begins_well n (facts.Began s i an epoch c) =
    not ((s == 1) && (i.number == 2)) || (is_flag c
    && nat_le (rounds since (upto (suc n) late)) (rounds since (upto (suc start) late) + 0))
begins_well n f = true

abbrev all_well : ℕ → Happening → Bool
all_well n x = list_all (begins_well n) x.facts

abbrev word : Accepted
word = first_word (words_then late_rollover late_deeds)

-- what was told up to alice's beginning, and up to the first delivery

abbrev server_then : List Deed
server_then = told_upto (suc start) late_deeds

abbrev at_delivery : List Deed
at_delivery = told_upto first_delivery late_deeds

-- All that is computed of the row, at once: so it is told and lived through only once.
record Computed : Type 0 where
  bare : list_all is_bare late_deeds ≡ true
  readable : list_all is_readable late_deeds ≡ true
  hushed : list_all is_hushed late_deeds ≡ true
  goes : list_all is_no_restart late ≡ true
  long : length late ≡ 162
  paced : is_some (pace since late) ≡ true
  first_round : rounds since (upto (suc made) late) ≡ 1
  claimed_in : rounds since (upto claim late) ≡ 2
  delivered_in : rounds since (upto first_delivery late) ≡ 3
  again_in : rounds since (upto second_delivery late) ≡ 32
  alice_trusts : is_trusting_on 0 120 late_deeds ≡ true
  bob_trusts : is_trusting_on 1 112 late_deeds ≡ true
  carol_trusts : is_trusting_on 2 111 late_deeds ≡ true
  long_enough : (nat_le (length late_deeds) 162) ≡ true
  some_word : nat_lt 0 (length (words_then late_rollover late_deeds)) ≡ true
  words : list_all is_word (words_then late_rollover late_deeds) ≡ true
  keeper : is_keeper 1 bob_said (id 1) word late_deeds ≡ true
  bob_here : In bob (stations late)
  well : is_tested all_well late ≡ true
  started : is_some (deed_at start late_deeds) ≡ true
  begun : In (facts.Began 0 (id 2) An1 2 all_report) (facts_in (deed_at start late_deeds))
  at_make : is_some (deed_at made late_deeds) ≡ true
  make_tick : (happening (deed_at made late_deeds)).event ≡ events.Tick 0 1
  installed : In (facts.Installed 0 (id 2) An1 2 (sak 5)) (facts_in (deed_at made late_deeds))
  followed : is_some (deed_at follows late_deeds) ≡ true
  follow : In (facts.Began 1 (id 2) An1 2 flagged) (facts_in (deed_at follows late_deeds))
  old_held : option_map (λ k. k.id) (old (keys_of_life (life_by 0 server_then)))
      ≡ Some (id 1)
  sends : option_and_then (λ (w : Life). transmitting (keys_in w))
      (life_by 1 (told_upto claim late_deeds))
      ≡ Some first_key
  claims : deed_at claim late_deeds
      ≡ Some (plain (events.Claim 1 1 1) (facts.Claimed 1 An0 1 1 ∷ []))
  emitted_then : deed_at (suc claim) late_deeds ≡ Some (emits 18 1)
  none_emitted : length (emitted (upto (suc claim) late)) ≡ 0
  none_claimed : length (claimed settings (upto claim late)) ≡ 0
  comes_first : deed_at first_delivery late_deeds
      ≡ Some (plain (events.Deliver 18 0) (facts.Arrived 18 0 (arrivals.Accepted 1 user.body) ∷ []))
  comes_to_carol : deed_at to_carol late_deeds
      ≡ Some (plain (events.Deliver 18 2) (facts.Arrived 18 2 (arrivals.Missed An0) ∷ []))
  comes_again : deed_at second_delivery late_deeds
      ≡ Some (plain (events.Deliver 18 0) (facts.Arrived 18 0 (arrivals.Late 2) ∷ []))
  received_there : In first_key (received (keys_of_life (life_by 0 at_delivery)))

computed : Computed
unfolding opens
computed = record {
  bare = refl;
  readable = refl;
  hushed = refl;
  goes = refl;
  long = refl;
  paced = refl;
  first_round = refl;
  claimed_in = refl;
  delivered_in = refl;
  again_in = refl;
  alice_trusts = refl;
  bob_trusts = refl;
  carol_trusts = refl;
  long_enough = refl;
  some_word = refl;
  words = refl;
  keeper = refl;
  bob_here = inr (inl refl);
  well = refl;
  started = refl;
  begun = inr (inl refl);
  at_make = refl;
  make_tick = refl;
  installed = inr (inl refl);
  followed = refl;
  follow = inr (inl refl);
  old_held = refl;
  sends = refl;
  claims = refl;
  emitted_then = refl;
  none_emitted = refl;
  none_claimed = refl;
  comes_first = refl;
  comes_to_carol = refl;
  comes_again = refl;
  received_there = inr (inl refl);
}

-- ---- nobody is restarted, and all trust alice

unbroken : (s a : ℕ) → IsUnbroken late s a
unbroken s a = record {
  on = λ n x from at within e. each-at IsNoRestart late
      (each-passes IsNoRestart is_no_restart is_no_restart-event late computed.goes) n x at within
      s e;
}

alice_trusts : Trusts settings late 0 0 42
alice_trusts =
    trusts-from 0 42 120 late_deeds computed.bare computed.readable computed.alice_trusts
    computed.long_enough

bob_trusts : Trusts settings late 1 0 50
bob_trusts =
    trusts-from 1 50 112 late_deeds computed.bare computed.readable computed.bob_trusts
    computed.long_enough

carol_trusts : Trusts settings late 2 0 51
carol_trusts =
    trusts-from 2 51 111 late_deeds computed.bare computed.readable computed.carol_trusts
    computed.long_enough

-- ---- listeners are bob, who keeps the old key, and carol

listener-at : (t sent : ℕ) (said : Accepted) → IsListener settings late late_rollover t sent said
    → (t ≡ (place said).0) × (sent ≡ (place said).1) × (is_kept_by_bob said ≡ true)
listener-at t sent said l =
    let heard = listener-word is_word late_deeds late_rollover t sent said
    (all-upto is_bare (suc start) late_deeds computed.bare)
    (all-upto is_readable (suc start) late_deeds computed.readable) computed.words l in
    let p = and_parts (is_said_at (place said) said.told.mi said.told.mn late_deeds)
    (is_kept_by_bob said) heard in
    let at = sender-is (place said) said.told.mi said.told.mn late_deeds computed.hushed
    computed.readable p.0 t sent l.announcement l.sends l.mi l.mn in
    (at.0, at.1, p.1)

listener-trusts : (t sent : ℕ) (said : Accepted) → IsListener settings late late_rollover t sent
    said
    → Trusts settings late t 0 (suc sent)
listener-trusts t sent said l =
    let at = listener-at t sent said l in
    by_test (same_mi said.told.mi (mi 2))
    (λ e. let a : t ≡ 1 = rw e at at.0 in let b : sent ≡ bob_said = rw e at at.1 in
    rw (a, b) bob_trusts)
    (λ e. let a : t ≡ 2 = rw e at at.0 in let b : sent ≡ carol_said = rw e at at.1 in
    rw (a, b) carol_trusts)

keeper-at : (t sent : ℕ) (said : Accepted) → IsKeeper settings late late_rollover t sent said
    → (t ≡ 1) × (sent ≡ bob_said)
keeper-at t sent said k =
    let at = listener-at t sent said k.listener in
    let mine : same_mi said.told.mi (mi 2) ≡ true = rw k.keeps at at.2 in
    (rw mine at at.0, rw mine at at.1)

bob_keeps : IsKeeper settings late late_rollover 1 bob_said word
bob_keeps =
    keeper-is late_rollover 1 bob_said late_deeds refl computed.bare computed.readable computed.bob_here
    computed.some_word computed.keeper

-- ---- bob follows

flag-is : (c : Cause) → is_flag c ≡ true → c ≡ flagged
flag-is flagged e = refl
flag-is all_report e = absurd (cc (e))
flag-is timed_out e = absurd (cc (e))

bob_begins : Begins late follows 1 (id 2) flagged
bob_begins =
    begins-at follows 1 An1 2 (id 2) flagged late_deeds computed.followed computed.follow

bob-follows : (x : ℕ) (cause : Cause) → Begins late x 1 (id 2) cause
    → (cause ≡ flagged)
    × (rounds since (upto (suc x) late) ≤ rounds since (upto (suc start) late) + 0)
bob-follows x cause b =
    let each = each-at (λ n y. all_well n y ≡ true) late
    (each-tested all_well late computed.well) x b.event b.at b.within in
    let one = all-in (begins_well x) b.event.facts each (facts.Began 1 (id 2) b.an b.epoch cause)
    (contains-in b.event.facts _ b.fact) in
    let p = and_parts (is_flag cause) _ one in
    (flag-is cause p.0, leb-true _ _ p.1)

-- ---- the rollover

pub steady : IsSteady settings late late_rollover
unfolding keys_at
steady = record {
  begins = begins-at start 0 An1 2 (id 2) all_report late_deeds computed.started computed.begun;
  old_held = ap (λ o. option_map (λ k. k.id) (old (keys_of_life o)))
      (life-upto 0 (suc start) late_deeds computed.bare computed.readable) ∙ computed.old_held;
  makes = makes-at made 0 An1 2 1 (id 2) (sak 5) late_deeds computed.at_make computed.make_tick
      computed.installed;
  order = omega arith;
  unbroken = unbroken 0 made;
  served = alice_trusts;
  whole_rounds = computed.paced;
  early = omega arith;
  server_counts = refl;
  first_round = computed.first_round;
  listeners_stay = λ t sent said l. unbroken t sent;
  listeners_trust = listener-trusts;
  lag_short = omega arith;
  follow = λ t sent said k x cause b.
      let at = keeper-at t sent said k in
      bob-follows x cause (subst (λ u. Begins late x u (id 2) cause) at.0 b);
  begun = λ t sent said k after.
      let at = keeper-at t sent said k in rw at.0 (follows, flagged, bob_begins);
}

-- ---- the frame

way : (d t : ℕ) (f : List Fact) → deed_at d late_deeds ≡ Some (plain (events.Deliver 18 t) f)
    → IsFlight settings late (late_flight t d)
way d t f comes_there =
    let claims = deed-at claim late_deeds _ computed.claims in
    let emission = deed-at (suc claim) late_deeds (emits 18 1) computed.emitted_then in
    let there = deed-at d late_deeds (plain (events.Deliver 18 t) f) comes_there in
    record {
      pn = 1;
      claims = record {
        event = _;
        at = claims.0;
        within = claims.1;
        fact = (0, omega arith, refl);
        sends = ap (option_and_then (λ (w : Life). transmitting (keys_in w)))
            (life-upto 1 claim late_deeds computed.bare computed.readable) ∙ computed.sends;
      };
      its_frame = record {
        emission = suc claim;
        event = _;
        at = emission.0;
        within = emission.1;
        station = 1;
        octets = carried 1;
        fact = (0, omega arith, refl);
        place = computed.none_emitted ∙ sym computed.none_claimed;
      };
      event = _;
      at = there.0;
      within = there.1;
      delivered = refl;
    }

pub first_way : IsFlight settings late (late_flight 0 first_delivery)
first_way = way first_delivery 0 _ computed.comes_first

pub second_way : IsFlight settings late (late_flight 0 second_delivery)
second_way = way second_delivery 0 _ computed.comes_again

pub way_to_carol : IsFlight settings late (late_flight 2 to_carol)
way_to_carol = way to_carol 2 _ computed.comes_to_carol

pub in_time :
    IsInTime settings late late_rollover (late_flight 0 first_delivery)
in_time =
    let claimed_in = computed.claimed_in in
    let delivered_in = computed.delivered_in in
    inl (record {
      named = refl;
      after = omega arith;
      sent = inr (bob_said, word, bob_keeps);
      reaches = inl refl;
      soon = omega (arith, claimed_in, delivered_in);
    })

pub found : IsFound settings late (late_flight 0 first_delivery)
unfolding keys_at
found =
    let there = deed-at first_delivery late_deeds _ computed.comes_first in
    record {
      event = _;
      at = there.0;
      arrival = arrivals.Accepted 1 user.body;
      fact = (0, omega arith, refl);
      answers = tt;
      receives = record {
        key = first_key;
        received_here = subst (λ o. Contains (received (keys_of_life o)) first_key)
            (sym (life-upto 0 first_delivery late_deeds computed.bare computed.readable))
            (in-contains (received (keys_of_life (life_by 0 at_delivery))) first_key
            computed.received_there);
        number = refl;
        secret = refl;
      };
    }

-- ---- too late, and to one that keeps nothing

no-other : id 1 ≡ id 2 → ⊥
no-other e = let same : 1 ≡ 2 = ap (λ (i : KeyId). i.number) e in absurd (omega (arith, same))

pub too_late :
    ¬ (IsInTime settings late late_rollover (late_flight 0 second_delivery))
too_late time =
    let claimed_in = computed.claimed_in in
    let again_in = computed.again_in in
    by_sum time
    (λ old_one. let s = old_one.soon in absurd (omega (arith, s, claimed_in, again_in)))
    (λ new_one. no-other new_one.named)

pub not_at_carol :
    ¬ (IsInTime settings late late_rollover (late_flight 2 to_carol))
not_at_carol time =
    by_sum time
    (λ old_one. by_sum old_one.reaches
    (λ e. absurd (omega (arith, e)))
    (λ r. let at = keeper-at 2 r.0 r.1 r.3 in let e = at.0 in absurd (omega (arith, e))))
    (λ new_one. no-other new_one.named)
