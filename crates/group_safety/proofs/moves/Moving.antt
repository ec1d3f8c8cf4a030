-- What is carried at each station follows the facts of an event.
use Rattle.std.proofs.Common.{◌≡◌, inl, ⊎_elim, ℕ, ◌+◌, ◌≤◌, ◌<◌, true, false, List, [], ◌∷◌, ◌++◌, map}
use Rattle.std.proofs.Common.{length, Option, Some, None, refl, ap, sym, ◌∙◌, subst, arith}
use Rattle.std.proofs.lemmas.Bool.{eqb-true, eq-eqb}
use Rattle.std.specs.Prelude.{◌==◌, nat_eq, option_map, option_and_then, option_to_list, slice_get}
use Rattle.lan_base.specs.declared.frame.UserFrame.{UserFrame}
use Rattle.lan_base.specs.declared.address.Mi.{Mi}
use Rattle.lan_base.specs.declared.name.Name.{Name}
use Rattle.lan_base.specs.declared.address.Sci.{Sci}
use Rattle.gcm_frames.specs.Tags.{is_sec}
use Rattle.sak_exchange.specs.declared.change.Change.{Change}
use Rattle.sak_exchange.specs.declared.change.Change.TheVariants as changes
use Rattle.sak_exchange.specs.declared.held_key.Key.{Key}
use Rattle.sak_exchange.specs.Histories.{install_count}
use Rattle.sak_exchange.specs.Held.{KeepsRules, received, held, transmitting}
use Rattle.sak_exchange.proofs.Public.{by_test, by_option, begun-upto}
use Rattle.mka_station.specs.declared.reaction.Reaction.{Reaction}
use Rattle.mka_station.specs.declared.verdict.Verdict.{Verdict}
use Rattle.mka_station.specs.Lives.{Member, Entry, keys_of}
use Rattle.mka_station.specs.Tick.{tick_turn}
use Rattle.mka_station.specs.Hearing.{frame_turn}
use Rattle.mka_station.specs.Restart.{ending}
use Rattle.lan_core.specs.declared.event.Event.TheVariants as events
use Rattle.lan_core.specs.declared.fact.Fact.{Fact}
use Rattle.lan_core.specs.declared.fact.Fact.TheVariants as facts
use Rattle.lan_core.specs.declared.settings.Settings.{Settings}
use Rattle.lan_core.specs.Run.{Run, Happening, Profile, stations}
use Rattle.lan_core.specs.Ledgers.{next_frame, installs_at}
use Rattle.lan_core.specs.Lives.{Life, life, seen_at, sak_in, lived, lived_hearing, drawn_mi}
use Rattle.lan_core.specs.Lives.{begun as begun_life, keys_in, setup_of, turn_at_tick}
use Rattle.lan_core.specs.Order.{most_installs}
use Rattle.lan_core.specs.Claims.{frame_of_claim, Waiting}
use Rattle.lan_core.specs.Expected.{change_fact, reaction_facts, reached_facts, restart_facts}
use Rattle.lan_core.specs.Expected.{claim_fact, number_fact, emit_facts}
use Rattle.group_safety.specs.Transmitting.{Carried, nothing, now, moves, follow, transmits}
use Rattle.group_safety.specs.Transmitting.{Carries, CarriesIn, CarriesAt}
use Rattle.group_safety.proofs.once.Histories.{view-keys, keys-new}
use Rattle.group_safety.proofs.once.Nexts.{get-there, mapped, other-tick, other-restart, claim-life}
use Rattle.group_safety.proofs.once.Nexts.{emit-life}
use Rattle.group_safety.proofs.rollover.EventKinds.{Kind, IsReached}
use Rattle.group_safety.proofs.rollover.EventKinds as kinds
use Rattle.group_safety.proofs.moves.Carrying.{moved_by, moved_all, goes-dropped}
use Rattle.group_safety.proofs.moves.Carrying.{dropped-none, none-shown}
use Rattle.group_safety.proofs.moves.Turning.{tick-goes, frame-goes}

-- ---- facts as changes

move-own : (t : ℕ) (c : Change) (k : Carried) → moves t (change_fact t c) k ≡ moved_by c k
move-own t (changes.Dropped j) k = let y : nat_eq t t ≡ true = eq-eqb t t refl in rw y refl
move-own t (changes.Retired j) k = refl
move-own t (changes.Began j cause) k = let y : nat_eq t t ≡ true = eq-eqb t t refl in rw y refl
move-own t (changes.Installed j) k = let y : nat_eq t t ≡ true = eq-eqb t t refl in rw y refl
move-own t (changes.Untaken id why) k = refl

move-other : (t u : ℕ) (c : Change) (k : Carried) → (u == t) ≡ false → moves t (change_fact u c) k ≡ Some k
move-other t u (changes.Dropped j) k apart = rw apart refl
move-other t u (changes.Retired j) k apart = refl
move-other t u (changes.Began j cause) k apart = rw apart refl
move-other t u (changes.Installed j) k apart = rw apart refl
move-other t u (changes.Untaken id why) k apart = refl

follow-own : (t : ℕ) (cs : List Change) (k : Carried) → follow t (map (change_fact t) cs) k ≡ moved_all cs k
unfolding moved_all
follow-own t [] k = refl
follow-own t (c ∷ cs) k = ap (option_and_then (follow t (map (change_fact t) cs))) (move-own t c k)
    ∙ by_option (moved_by c k) (λ none. rw none refl) (λ j some. rw some (follow-own t cs j))

follow-other : (t u : ℕ) (cs : List Change) (k : Carried) → (u == t) ≡ false → follow t (map (change_fact u) cs) k ≡ Some k
follow-other t u [] k apart = refl
follow-other t u (c ∷ cs) k apart = ap (option_and_then (follow t (map (change_fact u) cs))) (move-other t u c k apart) ∙ follow-other t u cs k apart

pub follow-append : (t : ℕ) (a b : List Fact) (k : Carried) → follow t (a ++ b) k ≡ option_and_then (follow t b) (follow t a k)
follow-append t [] b k = refl
follow-append t (f ∷ a) b k = by_option (moves t f k) (λ none. rw none refl) (λ j some. rw some (follow-append t a b j))

by-verdict : (t u h : ℕ) (o : Option Verdict) (k : Carried) → follow t (option_to_list (option_map (λ v. facts.HeardMka h u v) o)) k ≡ Some k
by-verdict t u h None k = refl
by-verdict t u h (Some v) k = refl

by-server : (t u : ℕ) (o : Option (Option Mi)) (k : Carried) → follow t (option_to_list (option_map (λ m. facts.Server u m) o)) k ≡ Some k
by-server t u None k = refl
by-server t u (Some m) k = refl

by-sent : (t u n : ℕ) (o : Option (List ℕ)) (k : Carried) → follow t (option_to_list (option_map (λ octets. facts.Framed n u false octets) o)) k ≡ Some k
by-sent t u n None k = refl
by-sent t u n (Some octets) k = refl

then-same : (f : Carried → Option Carried) (o : Option Carried) → ((j : Carried) → f j ≡ Some j) → option_and_then f o ≡ o
then-same f None same = refl
then-same f (Some j) same = same j

reaction-follows : (t u h n : ℕ) (re : Reaction) (k : Carried) → follow t (reaction_facts u h n re) k ≡ follow t (map (change_fact u) re.changes) k
reaction-follows t u h n re k =
    let first = option_to_list (option_map (λ v. facts.HeardMka h u v) re.heard) in
    let second = option_to_list (option_map (λ m. facts.Server u m) re.server) in
    let third = map (change_fact u) re.changes in
    let last = option_to_list (option_map (λ octets. facts.Framed n u false octets) re.sent) in
    follow-append t first (second ++ (third ++ last)) k
    ∙ (ap (option_and_then (follow t (second ++ (third ++ last)))) (by-verdict t u h re.heard k)
    ∙ (follow-append t second (third ++ last) k
    ∙ (ap (option_and_then (follow t (third ++ last))) (by-server t u re.server k)
    ∙ (follow-append t third last k
    ∙ then-same (follow t last) (follow t third k) (by-sent t u n re.sent)))))

-- ---- lives

pub begun-some : (settings : Settings) (t : ℕ) (r : Run) (f : List Fact) (p : Profile) (mi : Mi) → drawn_mi f ≡ Some mi
    → begun_life settings t r f p ≡ Some (record { member = record { setup = setup_of settings p; mi = mi; base = length (installs_at t r) }; past = [] })
begun-some settings t r f p mi is = rw is refl

nothing-transmits : transmitting [] ≡ None
unfolding transmitting
nothing-transmits = refl

-- a life that begins with so many installs
pub carries-new : (l : Life) (k : Carried) → l.past ≡ [] → k.installs ≡ l.member.base → (now k).present ≡ false → (now k).epoch ≤ l.member.base → Carries l.member.base (keys_in l) k
carries-new l k none count absent low = subst (λ h. Carries l.member.base h k) (sym (ap (keys_of l.member) none ∙ keys-new l.member)) (record {
  installs = let z = count in omega arith;
  shows = (let e : transmits (now k) ≡ None = rw absent refl in e) ∙ sym (ap (option_map (λ (key : Key). (key.an, key.epoch))) nothing-transmits);
  last = inl low;
})

end-goes : (m : Member) (p : List Entry) (k : Carried) → KeepsRules m.base (keys_of m p) → Carries m.base (keys_of m p) k
    → (j : Carried) × (moved_all (ending m p).changes k ≡ Some j) × (j.installs ≡ m.base + install_count (keys_of m p)) × ((now j).present ≡ false) × ((now j).epoch ≤ m.base + install_count (keys_of m p))
unfolding ending
end-goes m p k kept carries =
    let h = keys_of m p in
    let d = goes-dropped m.base h k kept carries in
    let j : Carried = d.0 in (
      j,
      subst (λ g. moved_all (map (λ i. changes.Dropped (held g i)) (received g)) k ≡ Some j) (sym (view-keys m p)) d.1,
      d.2.installs,
      none-shown (now j) (d.2.shows ∙ ap (option_map (λ (key : Key). (key.an, key.epoch))) (dropped-none h)),
      ⊎_elim (λ low. omega (arith, low)) (λ begun. begun-upto m.base h (now j).epoch kept begun) d.2.last,
    )

same-life : (settings : Settings) (t : ℕ) (x : Happening) (r : Run) (k : Carried) → life settings t (x ∷ r) ≡ life settings t r → follow t x.facts k ≡ Some k → CarriesAt settings t r k
    → (j : Carried) × (follow t x.facts k ≡ Some j) × CarriesAt settings t (x ∷ r) j
same-life settings t x r k same still carries = (k, still, subst (λ (o : Option Life). CarriesIn o k) (sym same) carries)

new-life : (settings : Settings) (t : ℕ) (x : Happening) (r : Run) (l : Life) (k j : Carried) → life settings t (x ∷ r) ≡ Some l → follow t x.facts k ≡ Some j → Carries l.member.base (keys_in l) j
    → (i : Carried) × (follow t x.facts k ≡ Some i) × CarriesAt settings t (x ∷ r) i
new-life settings t x r l k j living goes carries = (j, goes, subst (λ (o : Option Life). CarriesIn o j) (sym living) carries)

other-start : (settings : Settings) (t : ℕ) (x : Happening) (r : Run) (name : Name) (sci : Sci) (priority : ℕ) → x.event ≡ events.Start name sci priority → (length (stations r) == t) ≡ false → life settings t (x ∷ r) ≡ life settings t r
unfolding life
other-start settings t x r name sci priority ev apart = rw ev (rw apart refl)

pub own-start : (settings : Settings) (t : ℕ) (x : Happening) (r : Run) (name : Name) (sci : Sci) (priority : ℕ) → x.event ≡ events.Start name sci priority → (length (stations r) == t) ≡ true
    → life settings t (x ∷ r) ≡ begun_life settings t r x.facts (record { name = name; sci = sci; priority = priority })
unfolding life
own-start settings t x r name sci priority ev here = rw ev (rw here refl)

pub own-tick : (settings : Settings) (t next : ℕ) (x : Happening) (r : Run) (l : Life) → x.event ≡ events.Tick t next → life settings t r ≡ Some l → life settings t (x ∷ r) ≡ Some (lived l (turn_at_tick settings t r l next (sak_in x.facts)))
unfolding life
own-tick settings t next x r l ev living = let y : nat_eq t t ≡ true = eq-eqb t t refl in rw ev (rw (y, living) refl)

own-restart : (settings : Settings) (t : ℕ) (x : Happening) (r : Run) (p : Profile) → x.event ≡ events.Restart t → slice_get (stations r) t ≡ Some p → life settings t (x ∷ r) ≡ begun_life settings t r x.facts p
unfolding life
own-restart settings t x r p ev there = let y : nat_eq t t ≡ true = eq-eqb t t refl in rw ev (rw (y, there) refl)

other-reached : (settings : Settings) (t s number : ℕ) (octets : List ℕ) (x : Happening) (r : Run) → IsReached r x.event s number octets → (s == t) ≡ false → life settings t (x ∷ r) ≡ life settings t r
unfolding life
other-reached settings t s number octets x r (kinds.delivered f there same ev) apart = rw ev (rw apart refl)
other-reached settings t s number octets x r (kinds.injected zero_is ev) apart = rw ev (rw apart refl)

pub own-reached : (settings : Settings) (t number : ℕ) (octets : List ℕ) (l : Life) (x : Happening) (r : Run) → IsReached r x.event t number octets → life settings t r ≡ Some l → life settings t (x ∷ r) ≡ Some (lived_hearing l octets)
unfolding life
own-reached settings t number octets l x r (kinds.delivered f there same ev) living =
    let y : nat_eq t t ≡ true = eq-eqb t t refl in rw ev (rw (y, there, living) (ap (λ o. Some (lived_hearing l o)) same))
own-reached settings t number octets l x r (kinds.injected zero_is ev) living =
    let y : nat_eq t t ≡ true = eq-eqb t t refl in rw ev (rw (y, living) refl)

claim-follows : (settings : Settings) (t s pn : ℕ) (r : Run) (o : Option Key) (k : Carried) → follow t (claim_fact settings s r pn o ∷ []) k ≡ Some k
claim-follows settings t s pn r o k = by_test (pn == 0) (λ y. rw y refl) (λ y. rw y (go o))
  where
    go : (o : Option Key) → follow t (number_fact s pn o ∷ []) k ≡ Some k
    go None = refl
    go (Some j) = refl

emit-follows : (users : List UserFrame) (r : Run) (t : ℕ) (w : Waiting) (shown : List Fact) (k : Carried) → emit_facts users r w ≡ Some shown → follow t shown k ≡ Some k
emit-follows users r t w shown k is = let m = mapped (λ octets. facts.Framed (next_frame r) w.station true octets ∷ []) (frame_of_claim users r w) shown is in
    ap (λ f. follow t f k) (sym m.2)

pub low_at_first : (n : ℕ) (k : Carried) → k ≡ nothing → (now k).epoch ≤ n
low_at_first n k blank = let e : (now k).epoch ≡ 0 = ap (λ (c : Carried). (now c).epoch) blank in omega (arith, e)

-- what is known of a station before an event, and of its keys after it
pub record IsKnown (settings : Settings) (t : ℕ) (x : Happening) (r : Run) : Type 0 where
  pub kept : (l : Life) → life settings t r ≡ Some l → KeepsRules l.member.base (keys_in l)
  pub counts : (l : Life) → life settings t r ≡ Some l → l.member.base + install_count (keys_in l) ≡ length (installs_at t r)
  pub none : life settings t r ≡ None → length (installs_at t r) ≡ 0
  pub there : (l : Life) → life settings t r ≡ Some l → t < length (stations r)
  pub room : (l : Life) → life settings t (x ∷ r) ≡ Some l → l.member.base + install_count (keys_in l) ≤ most_installs

pub on-follows : (settings : Settings) (users : List UserFrame) (x : Happening) (r : Run) (t : ℕ) (k : Carried)
    → Kind settings users r x.event x.facts → IsKnown settings t x r → CarriesAt settings t r k
    → (j : Carried) × (follow t x.facts k ≡ Some j) × CarriesAt settings t (x ∷ r) j
on-follows settings users x r t k (kinds.starts name sci priority mi ev q) known carries =
    let still : follow t x.facts k ≡ Some k = ap (λ f. follow t f k) q in
    by_test (length (stations r) == t)
    (λ y. let same = eqb-true (length (stations r)) t y in
    let never : life settings t r ≡ None = by_option (life settings t r) (λ none. none) (λ l some. let less = known.there l some in absurd (omega arith)) in
    let blank : k ≡ nothing = subst (λ (o : Option Life). CarriesIn o k) never carries in
    let zero_is = known.none never in
    let born : Life = record { member = record { setup = setup_of settings (record { name = name; sci = sci; priority = priority }); mi = mi; base = length (installs_at t r) }; past = [] } in
    let living : life settings t (x ∷ r) ≡ Some born = own-start settings t x r name sci priority ev y ∙ begun-some settings t r x.facts (record { name = name; sci = sci; priority = priority }) mi (ap drawn_mi q) in
    new-life settings t x r _ k k living still (carries-new _ k refl (ap (λ (c : Carried). c.installs) blank ∙ sym zero_is) (ap (λ (c : Carried). (now c).present) blank) (low_at_first (length (installs_at t r)) k blank)))
    (λ y. same-life settings t x r k (other-start settings t x r name sci priority ev y) still carries)
on-follows settings users x r t k (kinds.ticks s next l ev living q) known carries =
    let seen = seen_at settings s r l next in
    let sak = sak_in x.facts in
    let re = (tick_turn l.member seen sak l.past).reaction in
    let w : follow t x.facts k ≡ follow t (map (change_fact s) re.changes) k = ap (λ f. follow t f k) q ∙ reaction-follows t s 0 (next_frame r) re k in
    by_test (s == t)
    (λ y. let same : s ≡ t = eqb-true s t y in
    let mine : life settings t r ≡ Some l = subst (λ v. life settings v r ≡ Some l) same living in
    let ev_t = ev ∙ ap (λ v. events.Tick v next) same in
    let seen_same : seen ≡ seen_at settings t r l next = ap (λ v. seen_at settings v r l next) same in
    let w2 : follow t x.facts k ≡ moved_all (tick_turn l.member (seen_at settings t r l next) sak l.past).reaction.changes k =
    w ∙ (ap (λ v. follow t (map (change_fact v) re.changes) k) same ∙ (follow-own t re.changes k ∙ ap (λ v. moved_all (tick_turn l.member v sak l.past).reaction.changes k) seen_same)) in
    let after = own-tick settings t next x r l ev_t mine in
    let g = tick-goes l.member (seen_at settings t r l next) sak l.past k (known.kept l mine) (known.room _ after) (subst (λ (o : Option Life). CarriesIn o k) mine carries) in
    new-life settings t x r _ k g.0 after (w2 ∙ g.1) g.2)
    (λ y. same-life settings t x r k (other-tick settings t s next x r ev y) (w ∙ follow-other t s re.changes k y) carries)
on-follows settings users x r t k (kinds.reached s number octets l came living q) known carries =
    by_test (s == t)
    (λ y. let same : s ≡ t = eqb-true s t y in
    let mine : life settings t r ≡ Some l = subst (λ v. life settings v r ≡ Some l) same living in
    let came_t : IsReached r x.event t number octets = subst (λ v. IsReached r x.event v number octets) same came in
    let q_t : x.facts ≡ reached_facts settings t r number octets l = q ∙ ap (λ v. reached_facts settings v r number octets l) same in
    let after = own-reached settings t number octets l x r came_t mine in
    by_test (is_sec octets)
    (λ sec. let still : follow t x.facts k ≡ Some k = ap (λ f. follow t f k) q_t ∙ rw sec refl in
    same-life settings t x r k (after ∙ rw (sec, mine) refl) still carries)
    (λ sec. let w2 : follow t x.facts k ≡ moved_all (frame_turn l.member octets l.past).reaction.changes k =
    ap (λ f. follow t f k) q_t ∙ (rw sec refl ∙ (reaction-follows t t number 0 (frame_turn l.member octets l.past).reaction k ∙ follow-own t (frame_turn l.member octets l.past).reaction.changes k)) in
    let after2 : life settings t (x ∷ r) ≡ Some (lived l (frame_turn l.member octets l.past)) = after ∙ rw sec refl in
    let g = frame-goes l.member octets l.past k (known.kept l mine) (known.room _ after2) (subst (λ (o : Option Life). CarriesIn o k) mine carries) in
    new-life settings t x r _ k g.0 after2 (w2 ∙ g.1) g.2))
    (λ y. same-life settings t x r k (other-reached settings t s number octets x r came y) (ap (λ f. follow t f k) q ∙ others s y) carries)
  where
    others : (s : ℕ) → (s == t) ≡ false → follow t (reached_facts settings s r number octets l) k ≡ Some k
    others s apart = by_test (is_sec octets) (λ sec. rw sec refl)
        (λ sec. rw sec (reaction-follows t s number 0 (frame_turn l.member octets l.past).reaction k ∙ follow-other t s (frame_turn l.member octets l.past).reaction.changes k apart))
on-follows settings users x r t k (kinds.restarts s mi l ev drawn living q) known carries =
    by_test (s == t)
    (λ y. let same : s ≡ t = eqb-true s t y in
    let mine : life settings t r ≡ Some l = subst (λ v. life settings v r ≡ Some l) same living in
    let ev_t = ev ∙ ap events.Restart same in
    let there = get-there (stations r) t (known.there l mine) in
    let after = own-restart settings t x r there.0 ev_t there.1 ∙ begun-some settings t r x.facts there.0 mi drawn in
    let e = end-goes l.member l.past k (known.kept l mine) (subst (λ (o : Option Life). CarriesIn o k) mine carries) in
    let w : follow t x.facts k ≡ Some e.0 = ap (λ f. follow t f k) (q ∙ ap (λ v. restart_facts v mi l) same)
    ∙ (reaction-follows t t 0 0 (ending l.member l.past) k ∙ (follow-own t (ending l.member l.past).changes k ∙ e.1)) in
    let count = known.counts l mine in
    new-life settings t x r _ k e.0 after w (carries-new _ e.0 refl (e.2 ∙ count) e.3 (let low = e.4 in omega (arith, low, count))))
    (λ y. same-life settings t x r k (other-restart settings t s x r ev y)
    (ap (λ f. follow t f k) q ∙ (reaction-follows t s 0 0 (ending l.member l.past) k ∙ follow-other t s (ending l.member l.past).changes k y)) carries)
on-follows settings users x r t k (kinds.claims s user pn ev q) known carries =
    same-life settings t x r k (claim-life settings t x r s user pn ev) (ap (λ f. follow t f k) q ∙ claim-follows settings t s pn r _ k) carries
on-follows settings users x r t k (kinds.emits w ev waits is) known carries =
    same-life settings t x r k (emit-life settings t x r ev) (emit-follows users r t w x.facts k is) carries
