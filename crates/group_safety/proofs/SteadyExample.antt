-- A run that has a steady rollover with a keeper, and a frame in time: the laws on hitless rollover
-- speak of it. And what is no steady rollover, or not in time.
use Rattle.std.proofs.Common.{◌≡◌, ◌<◌, ◌≤◌, ◌+◌, refl, sym, ap, inl, inr, ◌∙◌, ℕ, zero, suc, List}
use Rattle.std.proofs.Common.{[]}
use Rattle.std.proofs.Common.{subst, ◌∷◌, ◌++◌, true, false, None, Some, is_some, option_map, arith}
use Rattle.std.specs.Prelude.{Contains}
use Rattle.lan_base.specs.declared.association_number.AssociationNumber.TheVariants.{An0, An1}
use Rattle.lan_base.specs.declared.association_number.AssociationNumber.{AssociationNumber}
use Rattle.lan_base.specs.declared.key_id.KeyId.{KeyId}
use Rattle.mkpdu_codec.specs.declared.announcement.Announcement.{Announcement}
use Rattle.peer_lists.specs.Acceptance.{Accepted}
use Rattle.peer_lists.specs.Histories.{recent}
use Rattle.sak_exchange.specs.declared.change.Cause.{Cause}
use Rattle.sak_exchange.specs.declared.change.Cause.TheVariants.{All as all_report, Flag as flagged}
use Rattle.sak_exchange.specs.Held.{old}
use Rattle.mka_station.specs.Lives.{live_words, peers_of, elected, told}
use Rattle.mka_station.specs.Hearing.{right}
use Rattle.lan_core.specs.declared.event.Event.TheVariants as events
use Rattle.lan_core.specs.declared.fact.Fact.{Fact}
use Rattle.lan_core.specs.declared.fact.Fact.TheVariants as facts
use Rattle.lan_core.specs.Run.{Run, Happening, happened, Profile, stations}
use Rattle.lan_core.specs.Ledgers.{births}
use Rattle.lan_core.specs.Lives.{Life, life, setup_of, transmitting_at}
use Rattle.lan_core.specs.Claims.{claimed}
use Rattle.lan_core.specs.Legal.{IsLegal, none_ahead, with_ahead}
use Rattle.lan_core.specs.Fresh.{IsFresh, IsUnforged, drawn_saks}
use Rattle.group_safety.specs.Moments.{upto}
use Rattle.group_safety.specs.Rounds.{Since, pace, rounds}
use Rattle.group_safety.specs.Stations.{mi_at, mi_of, keys_at, keys_of_life, server_at, server_of}
use Rattle.group_safety.specs.Steady.{Begins, IsUnbroken, Trusts, IsListener}
use Rattle.group_safety.specs.Steady.{Rollover, IsKeeper, IsSteady}
use Rattle.group_safety.specs.Time.{Flight, IsFlight, IsInTime, IsFound}
use Rattle.group_safety.proofs.Members.{In, contains-in, by_sum}
use Rattle.group_safety.proofs.rollover.Found.{run-hitless}
use Rattle.group_safety.proofs.once.Currents.{some-same}
use Rattle.group_safety.specs.worked.Group.{settings, mi, alice, bob, id, sak}
use Rattle.group_safety.proofs.example.Scene.{IsSayable, Lives, Scene}
use Rattle.group_safety.proofs.example.Run.{users, frames, a1, b1, a2, b2}
use Rattle.group_safety.proofs.example.Run.{a3}
use Rattle.group_safety.proofs.example.Run.{r11, first_key}
use Rattle.group_safety.proofs.example.Run as first
use Rattle.group_safety.proofs.example.Good.{good_a1, good_b1, good_a2, good_b2, good_a3}
use Rattle.group_safety.proofs.example.Steps.{opens, both, l11, begun}
use Rattle.group_safety.proofs.example.Rolling as scene
use Rattle.group_safety.proofs.example.Rolling.{run, many, more, carried, d4, e3, e4, d5, e5}
use Rattle.group_safety.proofs.example.Rolled.{good_d4, good_e3, good_e4, good_d5, good_e5, l12}
use Rattle.group_safety.proofs.example.Rolled.{l13}
use Rattle.group_safety.proofs.example.Rolled.{l14, l15, l16, l17, l18, l19, l20, l21, l24, l25}
use Rattle.group_safety.proofs.example.Rolled.{l26}
use Rattle.group_safety.proofs.example.Rolled.{s12, s13, s14, s15, s16, s17, s18, s19, s20, s21}
use Rattle.group_safety.proofs.example.Rolled.{s22, s23, s24, s25, s26, steps, alice_after}
use Rattle.group_safety.proofs.example.Rolled.{bob_after, transmits}
use Rattle.group_safety.proofs.example.Each.{Each, each-at, each-passes, Along, along-at}
use Rattle.group_safety.proofs.example.Each.{is_no_restart}
use Rattle.group_safety.proofs.example.Each.{IsNoRestart, is_no_restart-event, begins_no_second}
use Rattle.group_safety.proofs.example.Each.{no-second-begins}
use Rattle.group_safety.proofs.example.Each.{frames_none, frames_none-framed, last-frame_says}
use Rattle.group_safety.proofs.example.Each.{sayable-right}
use Rattle.group_safety.proofs.Examples.{bob_starts, mis_differ, saks_differ}

-- ---- the scenes

pub v11 : Scene users both r11 l11
v11 = begun bob_starts

pub v12 : Scene users both scene.r12 l12
v12 = s12 v11

v13 : Scene users both scene.r13 l13
v13 = s13 v12

v14 : Scene users both scene.r14 l14
v14 = s14 v13

v15 : Scene users both scene.r15 l15
v15 = s15 v14

v16 : Scene users both scene.r16 l16
v16 = s16 v15

v17 : Scene users both scene.r17 l17
v17 = s17 v16

v18 : Scene users both scene.r18 l18
v18 = s18 v17

v19 : Scene users both scene.r19 l19
v19 = s19 v18

v20 : Scene users both scene.r20 l20
v20 = s20 v19

v21 : Scene users both scene.r21 l21
v21 = s21 v20

v22 : Scene users both scene.r22 l21
v22 = s22 v21

v23 : Scene users both scene.r23 l21
v23 = s23 v21 v22

v24 : Scene users both scene.r24 l24
v24 = s24 v23

v25 : Scene users both scene.r25 l25
v25 = s25 v24

v26 : Scene users both scene.r26 l26
v26 = s26 v25

-- ---- the newest event of a run, and what came before

abbrev newest : Run → Happening
newest [] = happened events.Emit []
newest (x ∷ r) = x

abbrev earlier : Run → Run
earlier [] = []
earlier (x ∷ r) = r

-- ---- the run meets the premises

pub legal : IsLegal settings users run
legal = record {
  stepped = steps v26;
  excused = (refl, v26.excused (with_ahead scene.arrives none_ahead));
}

pub unforged : IsUnforged settings run
unforged = (tt, v26.unforged)

pub fresh : IsFresh run
unfolding births drawn_saks
fresh = record {
  mis = ((mis_differ 2 1 (λ same. omega arith), tt), (tt, tt));
  saks = ((saks_differ 2 1 (λ same. omega arith), tt), (tt, tt));
}

-- ---- nobody starts again

no_restarts : Each IsNoRestart run
no_restarts = each-passes IsNoRestart is_no_restart is_no_restart-event run refl

unbroken : (s a : ℕ) → IsUnbroken run s a
unbroken s a = record {
  on = λ n x late at within e. each-at IsNoRestart run no_restarts n x at within s e;
}

-- ---- both trust alice

abbrev Trusted : ℕ → Run → Type 0
Trusted t r = server_at settings t r ≡ mi_at settings 0 r

trusts : (t : ℕ) (r : Run) (ls : Lives) → life settings 0 r ≡ Some (ls 0)
    → life settings t r ≡ Some (ls t)
    → elected (ls t).member (ls t).past ≡ Some (ls 0).member.mi
    → Trusted t r
unfolding server_at mi_at
trusts t r ls alice_lives lives same = ap server_of lives ∙ same ∙ sym (ap mi_of alice_lives)

now : (t : ℕ) (r : Run) (ls : Lives) → t < 2 → Scene users both r ls
    → elected (ls t).member (ls t).past ≡ Some (ls 0).member.mi
    → Trusted t r
now t r ls there v same = trusts t r ls (v.living 0 (omega arith)) (v.living t there) same

alice_on : Along (Trusted 0) 14 run
unfolding opens
alice_on = (
  trusts 0 run l26 (alice_after v26) (alice_after v26) refl,
  (
    now 0 scene.r26 l26 (omega arith) v26 refl,
    (
      now 0 scene.r25 l25 (omega arith) v25 refl,
      (
        now 0 scene.r24 l24 (omega arith) v24 refl,
        (
          now 0 scene.r23 l21 (omega arith) v23 refl,
          (
            now 0 scene.r22 l21 (omega arith) v22 refl,
            (
              now 0 scene.r21 l21 (omega arith) v21 refl,
              (
                now 0 scene.r20 l20 (omega arith) v20 refl,
                (
                  now 0 scene.r19 l19 (omega arith) v19 refl,
                  (
                    now 0 scene.r18 l18 (omega arith) v18 refl,
                    (
                      now 0 scene.r17 l17 (omega arith) v17 refl,
                      (
                        now 0 scene.r16 l16 (omega arith) v16 refl,
                        (
                          now 0 scene.r15 l15 (omega arith) v15 refl,
                          (
                            now 0 scene.r14 l14 (omega arith) v14 refl,
                            now 0 scene.r13 l13 (omega arith) v13 refl,
                          ),
                        ),
                      ),
                    ),
                  ),
                ),
              ),
            ),
          ),
        ),
      ),
    ),
  ),
)

alice_on_trusts : Trusts settings run 0 0 13
alice_on_trusts = record {
  on = λ n late within. along-at (Trusted 0) 14 run alice_on n (omega (arith, late)) within;
}

bob_on : Along (Trusted 1) 9 run
unfolding opens
bob_on = (
  trusts 1 run l26 (alice_after v26) (bob_after v26) refl,
  (
    now 1 scene.r26 l26 (omega arith) v26 refl,
    (
      now 1 scene.r25 l25 (omega arith) v25 refl,
      (
        now 1 scene.r24 l24 (omega arith) v24 refl,
        (
          now 1 scene.r23 l21 (omega arith) v23 refl,
          (
            now 1 scene.r22 l21 (omega arith) v22 refl,
            (
              now 1 scene.r21 l21 (omega arith) v21 refl,
              (
                now 1 scene.r20 l20 (omega arith) v20 refl,
                (
                  now 1 scene.r19 l19 (omega arith) v19 refl,
                  now 1 scene.r18 l18 (omega arith) v18 refl,
                ),
              ),
            ),
          ),
        ),
      ),
    ),
  ),
)

bob_on_trusts : Trusts settings run 1 0 18
bob_on_trusts = record {
  on = λ n late within. along-at (Trusted 1) 9 run bob_on n (omega (arith, late)) within;
}

-- ---- rounds

abbrev since : Since
since = record { moment = 12; out = [] }

is_paced : pace since run ≡ Some (record { rounds = 4; waiting = [] })
unfolding pace opens
is_paced = refl

-- in an open round no station ticks twice, and nothing is delivered; claims may come
a_second_tick_breaks_the_round : pace since (happened (events.Tick 0 more) [] ∷ scene.r25) ≡ None
unfolding pace opens
a_second_tick_breaks_the_round = refl

a_delivery_breaks_the_round : pace since (happened (events.Deliver 10 0) [] ∷ scene.r25) ≡ None
unfolding pace opens
a_delivery_breaks_the_round = refl

a_claim_does_not : pace since (happened (events.Claim 0 1 more) [] ∷ scene.r25)
    ≡ pace since scene.r25
unfolding pace opens
a_claim_does_not = refl

-- where bob has left, alice's second tick breaks the round, unless he takes no part in rounds
left_behind : Run
left_behind = happened (events.Tick 0 more) [] ∷ happened (events.Tick 0 more) [] ∷ run

a_station_that_left_breaks_the_round : pace since left_behind ≡ None
unfolding pace left_behind opens
a_station_that_left_breaks_the_round = refl

without_it_they_are_rounds : pace (record { moment = 12; out = 1 ∷ [] }) left_behind
    ≡ Some (record { rounds = 6; waiting = [] })
unfolding pace left_behind opens
without_it_they_are_rounds = refl

first_round : rounds since (upto 13 run) ≡ 1
unfolding rounds pace upto opens
first_round = refl

begun_in : rounds since (upto 20 run) ≡ 3
unfolding rounds pace upto opens
begun_in = refl

followed_in : rounds since (upto 24 run) ≡ 3
unfolding rounds pace upto opens
followed_in = refl

-- ---- the rollover: alice makes the second key in event 12, and begins it in event 19

abbrev second : Rollover
second = record {
  server = 0;
  made = 12;
  start = 19;
  old_id = id 1;
  new_id = id 2;
  lag = 0;
  from = since;
}

-- ---- one listener: bob, who said so in event 17

abbrev word : Accepted
word = record {
  at = 5;
  told = told (mi 1) (recent (peers_of (l18 0).member (l18 0).past)) e4;
  vouched = true;
}

words : live_words (l20 0).member (peers_of (l20 0).member (l20 0).past) ≡ word ∷ []
unfolding opens
words = refl

then_20 : upto 20 run ≡ scene.r20
unfolding upto
then_20 = refl

alice_20 : life settings 0 (upto 20 run) ≡ Some (l20 0)
alice_20 = ap (life settings 0) then_20 ∙ v20.living 0 (omega arith)

-- who puts a frame on the air that spells bob's fourth announcement, and when
abbrev IsFourth : ℕ → Happening → Type 0
IsFourth n x = (m t : ℕ) (octets : List ℕ) (q : Profile) (a : Announcement)
    → In (facts.Framed m t false octets) x.facts → right (setup_of settings q) octets ≡ Some a
    → a.mi ≡ mi 2 → a.mn ≡ 4 → (t ≡ 1) × (n ≡ 17)

quiet : (n : ℕ) (x : Happening) → frames_none x.facts ≡ true → IsFourth n x
quiet n x none m t octets q a i spelled is_mi is_mn =
    absurd (frames_none-framed x.facts none m t octets i)

other : (n : ℕ) (x : Happening) (f : List Fact) (number s : ℕ) (p : Profile) (b : Announcement)
    → f ++ frames number s p b ∷ [] ≡ x.facts → frames_none f ≡ true → IsSayable b
    → (b.mi ≡ mi 2 → b.mn ≡ 4 → ⊥) → IsFourth n x
other n x f number s p b same none good unlike m t octets q a i spelled is_mi is_mn =
    let parts = last-frame_says f number s p b none good m t octets q a
    (subst (In (facts.Framed m t false octets)) (sym same) i) spelled in
    absurd (unlike (ap (λ (w : Announcement). w.mi) (sym parts.1) ∙ is_mi)
    (ap (λ (w : Announcement). w.mn) (sym parts.1) ∙ is_mn))

not_bob : mi 1 ≡ mi 2 → ⊥
not_bob = mis_differ 1 2 (λ same. omega arith)

bobs_fourth : IsFourth 17
    (happened (events.Tick 1 many) (facts.Ticked 1 4 many ∷ frames 8 1 bob e4 ∷ []))
bobs_fourth m t octets q a i spelled is_mi is_mn =
    let parts = last-frame_says (facts.Ticked 1 4 many ∷ []) 8 1 bob e4 refl good_e4
    m t octets q a i
    spelled in
    (parts.0, refl)

by_2 : Each IsFourth first.r2
by_2 = (quiet 1 (newest first.r2) refl, (quiet 0 (newest (earlier first.r2)) refl, tt))

by_3 : Each IsFourth first.r3
by_3 = (
  other 2 (newest first.r3) (facts.Ticked 0 1 0 ∷ [])
      1 0 alice a1 refl refl good_a1 (λ e f. not_bob e),
  by_2,
)

by_4 : Each IsFourth first.r4
by_4 = (quiet 3 (newest first.r4) refl, by_3)

by_5 : Each IsFourth first.r5
by_5 = (
  other 4 (newest first.r5) (facts.Ticked 1 1 0 ∷ [])
      2 1 bob b1 refl refl good_b1 (λ e f. omega (arith, f)),
  by_4,
)

by_6 : Each IsFourth first.r6
by_6 = (quiet 5 (newest first.r6) refl, by_5)

by_7 : Each IsFourth first.r7
by_7 = (
  other 6 (newest first.r7) (facts.Ticked 0 2 0 ∷ facts.Installed 0 (id 1) An0 1 (sak 1) ∷ [])
      3 0 alice a2 refl refl good_a2 (λ e f. not_bob e),
  by_6,
)

by_8 : Each IsFourth first.r8
by_8 = (quiet 7 (newest first.r8) refl, by_7)

by_9 : Each IsFourth first.r9
by_9 = (
  other 8 (newest first.r9) (facts.Ticked 1 2 0 ∷ [])
      4 1 bob b2 refl refl good_b2 (λ e f. omega (arith, f)),
  by_8,
)

by_10 : Each IsFourth first.r10
by_10 = (quiet 9 (newest first.r10) refl, by_9)

by_11 : Each IsFourth first.r11
by_11 = (
  other 10 (newest first.r11) (facts.Ticked 0 3 0 ∷ facts.Began 0 (id 1) An0 1 all_report ∷ [])
      5 0 alice a3 refl refl good_a3 (λ e f. not_bob e),
  by_10,
)

by_12 : Each IsFourth scene.r12
by_12 = (quiet 11 (newest scene.r12) refl, by_11)

by_13 : Each IsFourth scene.r13
by_13 = (
  other 12 (newest scene.r13) (facts.Ticked 0 4 many ∷ facts.Installed 0 (id 2) An1 2 (sak 2) ∷ [])
      6 0 alice d4 refl refl good_d4 (λ e f. not_bob e),
  by_12,
)

by_14 : Each IsFourth scene.r14
by_14 = (
  other 13 (newest scene.r14) (facts.Ticked 1 3 many ∷ [])
      7 1 bob e3 refl refl good_e3 (λ e f. omega (arith, f)),
  by_13,
)

by_15 : Each IsFourth scene.r15
by_15 = (quiet 14 (newest scene.r15) refl, by_14)

by_16 : Each IsFourth scene.r16
by_16 = (quiet 15 (newest scene.r16) refl, by_15)

by_17 : Each IsFourth scene.r17
by_17 = (quiet 16 (newest scene.r17) refl, by_16)

by_18 : Each IsFourth scene.r18
by_18 = (bobs_fourth, by_17)

by_19 : Each IsFourth scene.r19
by_19 = (quiet 18 (newest scene.r19) refl, by_18)

by_20 : Each IsFourth scene.r20
by_20 = (
  other 19 (newest scene.r20) (facts.Ticked 0 6 many ∷ facts.Began 0 (id 2) An1 2 all_report ∷ [])
      9 0 alice d5 refl refl good_d5 (λ e f. not_bob e),
  by_19,
)

by_21 : Each IsFourth scene.r21
by_21 = (quiet 20 (newest scene.r21) refl, by_20)

by_23 : Each IsFourth scene.r23
by_23 = (
  quiet 22 scene.emits refl,
  (quiet 21 (newest scene.r22) refl, by_21),
)

by_26 : Each IsFourth scene.r26
by_26 = (
  other 25 (newest scene.r26) (facts.Ticked 1 6 more ∷ [])
      11 1 bob e5 refl refl good_e5 (λ e f. omega (arith, f)),
  (quiet 24 (newest scene.r25) refl, (quiet 23 scene.follows refl, by_23)),
)

fourth : Each IsFourth run
fourth = (quiet 26 scene.arrives refl, by_26)

-- every listener is he
is_bob : (t sent : ℕ) (says : Accepted) → IsListener settings run second t sent says
    → (t ≡ 1) × (sent ≡ 17)
is_bob t sent says l =
    let lives : Some l.server_life ≡ Some (l20 0) = sym l.living ∙ alice_20 in
    let here = subst (λ (w : Life). Contains (live_words w.member (peers_of w.member w.past)) says)
    (some-same lives) l.live in
    let only = subst (λ ws. Contains ws says) words here in
    let same : says ≡ word = by_sum (contains-in (word ∷ []) says only) (λ e. e) (λ i. elim i [ ])
    in
    each-at IsFourth run fourth sent l.sends.event l.sends.at l.sends.within l.sends.number
    t l.sends.octets l.sends.profile l.announcement
    (contains-in l.sends.event.facts _ l.sends.fact) l.sends.spelled
    (l.mi ∙ ap (λ (w : Accepted). w.told.mi) same) (l.mn ∙ ap (λ (w : Accepted). w.told.mn) same)

listens : IsListener settings run second 1 17 word
unfolding upto stations
listens = record {
  server_life = l20 0;
  living = alice_20;
  live = subst (λ ws. Contains ws word) (sym words) (0, omega arith, refl);
  announcement = e4;
  sends = record {
    event = _;
    at = refl;
    within = omega arith;
    number = 8;
    octets = _;
    fact = (1, omega arith, refl);
    profile = bob;
    here = (1, omega arith, refl);
    spelled = sayable-right bob bob e4 good_e4;
  };
  mi = refl;
  mn = refl;
  counts = refl;
}

-- bob is a keeper
pub keeps : IsKeeper settings run second 1 17 word
keeps = record { listener = listens; keeps = refl }

-- ---- he begins the second key once, since he follows

abbrev Follows : ℕ → Happening → Type 0
Follows n x = (an : AssociationNumber) (epoch : ℕ) (cause : Cause)
    → In (facts.Began 1 (id 2) an epoch cause) x.facts
    → (cause ≡ flagged) × (rounds since (upto (suc n) run) ≤ rounds since (upto 20 run) + 0)

none_of : (n : ℕ) (x : Happening) → begins_no_second x ≡ true → Follows n x
none_of n x none an epoch cause i = absurd (no-second-begins x none an epoch cause i)

same_cause : (an : AssociationNumber) (epoch : ℕ) (bn : AssociationNumber) (other : ℕ)
    (cause why : Cause)
    → facts.Began 1 (id 2) an epoch cause ≡ facts.Began 1 (id 2) bn other why → cause ≡ why
same_cause an epoch bn other cause why e = cc (e)

bob_follows : Follows 23 scene.follows
bob_follows an epoch cause i =
    by_sum i (λ e. cc (e)) (λ j. by_sum j
    (λ e. (same_cause an epoch An1 2 cause flagged e, omega (arith, begun_in, followed_in)))
    (λ k. elim k [ ]))

each_follows : Each Follows run
each_follows = (
  none_of 26 scene.arrives refl,
  (
    none_of 25 (newest scene.r26) refl,
    (
      none_of 24 (newest scene.r25) refl,
      (bob_follows, each-passes Follows begins_no_second none_of scene.r23 refl),
    ),
  ),
)

his_beginning : Begins run 23 1 (id 2) flagged
unfolding upto
his_beginning = record {
  event = scene.follows;
  at = refl;
  within = omega arith;
  an = An1;
  epoch = 2;
  fact = (1, omega arith, refl);
}

-- ---- the rollover is steady

held : option_map (λ k. k.id) (old (keys_of_life (Some (l20 0)))) ≡ Some (id 1)
unfolding opens
held = refl

pub steady : IsSteady settings run second
unfolding upto keys_at
steady = record {
  begins = record {
    event = _;
    at = refl;
    within = omega arith;
    an = An1;
    epoch = 2;
    fact = (1, omega arith, refl);
  };
  old_held = ap (λ o. option_map (λ k. k.id) (old (keys_of_life o))) alice_20 ∙ held;
  makes = record {
    event = _;
    at = refl;
    within = omega arith;
    next = many;
    tick = refl;
    an = An1;
    epoch = 2;
    sak = sak 2;
    fact = (1, omega arith, refl);
  };
  order = omega arith;
  unbroken = unbroken 0 12;
  served = alice_on_trusts;
  whole_rounds = rw is_paced refl;
  early = omega arith;
  server_counts = refl;
  first_round = first_round;
  listeners_stay = λ t sent says l. unbroken t sent;
  listeners_trust = λ t sent says l. let b = is_bob t sent says l in rw (b.0, b.1) bob_on_trusts;
  lag_short = omega arith;
  follow = λ t sent says k x cause begins.
      let b = is_bob t sent says k.listener in
      let fact = subst (λ u. Contains begins.event.facts
      (facts.Began u (id 2) begins.an begins.epoch cause)) b.0 begins.fact in
      each-at Follows run each_follows x begins.event begins.at begins.within begins.an
      begins.epoch cause (contains-in begins.event.facts _ fact);
  begun = λ t sent says k late.
      let b = is_bob t sent says k.listener in rw b.0 (23, flagged, his_beginning);
}

-- ---- a frame under the first key, which bob claimed before he followed, reaches alice after all
-- did

abbrev bobs : Flight
bobs = record {
  frame = 10;
  key = first_key;
  sender = 1;
  claim = 21;
  receiver = 0;
  delivery = 26;
}

first_21 : upto 21 run ≡ scene.r21
unfolding upto
first_21 = refl

pub flight : IsFlight settings run bobs
unfolding upto claimed opens
flight = record {
  pn = many;
  claims = record {
    event = _;
    at = refl;
    within = omega arith;
    fact = (0, omega arith, refl);
    sends = ap (transmitting_at settings 1) first_21 ∙ transmits v21;
  };
  its_frame = record {
    emission = 22;
    event = scene.emits;
    at = refl;
    within = omega arith;
    station = 1;
    octets = carried;
    fact = (0, omega arith, refl);
    place = refl;
  };
  event = scene.arrives;
  at = refl;
  within = omega arith;
  delivered = refl;
}

claimed_in : rounds since (upto 21 run) ≡ 3
unfolding rounds pace upto opens
claimed_in = refl

delivered_in : rounds since (upto 26 run) ≡ 4
unfolding rounds pace upto opens
delivered_in = refl

pub in_time : IsInTime settings run second bobs
in_time = inl (record {
  named = refl;
  after = omega arith;
  sent = inr (17, word, keeps);
  reaches = inl refl;
  soon = omega (arith, claimed_in, delivered_in);
})

-- the law on it
pub found : IsFound settings run bobs
found =
    run-hitless settings users run legal.stepped unforged fresh [] run second bobs refl steady
    flight in_time

-- ---- what is refused

-- where members may take 29 rounds to follow, the same frame would be too late
too_late : ¬ (IsInTime settings run (record second { lag = 29 }) bobs)
too_late time =
    by_sum time (λ old_one. let s = old_one.soon in
    absurd (omega (arith, s, claimed_in, delivered_in)))
    (λ new_one. let same : 1 ≡ 2 = ap (λ (i : KeyId). i.number) new_one.named in
    absurd (omega (arith, same)))

-- the server starts again
again : Run
again = happened (events.Restart 0) [] ∷ run

not_steady_where_it_starts_again : ¬ (IsSteady settings again second)
unfolding again upto
not_steady_where_it_starts_again s =
    s.unbroken.on 27 (happened (events.Restart 0) []) (omega arith) refl (omega arith) refl

-- a frame is delivered within a round
within_a_round : Run
within_a_round = happened (events.Deliver 10 0) [] ∷ scene.r25

not_steady_within_a_round : ¬ (IsSteady settings within_a_round second)
unfolding within_a_round
not_steady_within_a_round s =
    let broken : is_some (pace since within_a_round) ≡ false =
    ap (λ o. is_some o) a_delivery_breaks_the_round in
    cc (broken, s.whole_rounds)

-- ---- in time and too late: the frame is delivered again, after more rounds

rounds_on : ℕ → Run → Run
rounds_on zero r = r
rounds_on (suc n) r =
    happened (events.Tick 1 more) [] ∷ happened (events.Tick 0 more) [] ∷ rounds_on n r

late_by : Run
late_by = rounds_on 29 run

delivered_again_in : rounds since (upto 85 (happened (events.Deliver 10 0) [] ∷ late_by)) ≡ 33
unfolding rounds pace upto opens rounds_on late_by
delivered_again_in = refl

claimed_before : rounds since (upto 21 (happened (events.Deliver 10 0) [] ∷ late_by)) ≡ 3
unfolding rounds pace upto opens rounds_on late_by
claimed_before = refl

its_second_delivery_is_too_late :
    ¬ (IsInTime settings (happened (events.Deliver 10 0) [] ∷ late_by) second
    (record bobs { delivery = 85 }))
its_second_delivery_is_too_late time =
    by_sum time
    (λ old_one. let s = old_one.soon in
    absurd (omega (arith, s, claimed_before, delivered_again_in)))
    (λ new_one. let same : 1 ≡ 2 = ap (λ (i : KeyId). i.number) new_one.named in
    absurd (omega (arith, same)))

-- ---- a missed flag: bob doesn't follow

missed : Run
missed = rounds_on 1 scene.r23

missed_20 : upto 20 missed ≡ scene.r20
unfolding upto missed rounds_on
missed_20 = refl

missed_listens : IsListener settings missed second 1 17 word
unfolding upto stations missed rounds_on
missed_listens = record {
  server_life = l20 0;
  living = ap (life settings 0) missed_20 ∙ v20.living 0 (omega arith);
  live = subst (λ ws. Contains ws word) (sym words) (0, omega arith, refl);
  announcement = e4;
  sends = record {
    event = _;
    at = refl;
    within = omega arith;
    number = 8;
    octets = _;
    fact = (1, omega arith, refl);
    profile = bob;
    here = (1, omega arith, refl);
    spelled = sayable-right bob bob e4 good_e4;
  };
  mi = refl;
  mn = refl;
  counts = refl;
}

abbrev IsNoBeginning : ℕ → Happening → Type 0
IsNoBeginning n x = begins_no_second x ≡ true

never_begins : Each IsNoBeginning missed
unfolding missed rounds_on
never_begins = each-passes IsNoBeginning begins_no_second (λ n x none. none) missed refl

missed_in : rounds since missed ≡ 4
unfolding rounds pace opens missed rounds_on
missed_in = refl

missed_begun_in : rounds since (upto 20 missed) ≡ 3
unfolding rounds pace upto opens missed rounds_on
missed_begun_in = refl

not_steady_where_a_flag_is_missed : ¬ (IsSteady settings missed second)
not_steady_where_a_flag_is_missed s =
    let b = s.begun 1 17 word (record { listener = missed_listens; keeps = refl })
    (omega (arith, missed_in, missed_begun_in)) in
    let t = b.2 in
    no-second-begins t.event (each-at IsNoBeginning missed never_begins b.0 t.event t.at t.within)
    t.an t.epoch b.1 (contains-in t.event.facts _ t.fact)
