-- One member identifier is of one life: of one station, without a break.
use Rattle.std.proofs.Common.{◌≡◌, ◌⊎◌, inl, inr, ℕ, suc, ◌+◌, ◌≤◌, ◌<◌, List, [], ◌∷◌, map, length}
use Rattle.std.proofs.Common.{refl, ap, sym, ◌∙◌, subst, arith}
use Rattle.std.proofs.Common.{Option, Some, None}
use Rattle.std.proofs.lemmas.List.{length-append}
use Rattle.lan_base.specs.declared.address.Mi.{Mi}
use Rattle.lan_base.specs.declared.frame.UserFrame.{UserFrame}
use Rattle.lan_core.specs.declared.event.Event.{Event}
use Rattle.lan_core.specs.declared.event.Event.TheVariants as events
use Rattle.lan_core.specs.declared.fact.Fact.{Fact}
use Rattle.lan_core.specs.declared.fact.Fact.TheVariants as facts
use Rattle.lan_core.specs.declared.settings.Settings.{Settings}
use Rattle.lan_core.specs.Run.{Run, Happening, started, stations}
use Rattle.lan_core.specs.Ledgers.{Birth, births, born, gather, with_one}
use Rattle.lan_core.specs.Lives.{life}
use Rattle.lan_core.specs.Order.{Exists, IsAllowed}
use Rattle.lan_core.specs.Legal.{IsStep, IsStepped}
use Rattle.lan_base.specs.Differing.{AllDiffer}
use Rattle.lan_core.specs.Fresh.{drawn_mis}
use Rattle.group_safety.specs.Moments.{upto, At}
use Rattle.group_safety.specs.Stations.{mi_of, mi_at}
use Rattle.group_safety.proofs.Members.{In, by_sum}
use Rattle.group_safety.proofs.once.Places.{differs-in}
use Rattle.group_safety.proofs.rollover.Spans.{from_to}
use Rattle.group_safety.proofs.rollover.AtMoments.{along, event-at, to-upto}
use Rattle.group_safety.proofs.rollover.EventKinds.{Part, IsBirth, first, again, part}
use Rattle.group_safety.proofs.rollover.EventKinds as parts

-- ---- one event

-- a member identifier goes on, or a life with another begins
pub data Carried (settings : Settings) (u : ℕ) (x : Happening) (r : Run) : Type 0 where
  stays : mi_at settings u (x ∷ r) ≡ mi_at settings u r → Carried settings u x r
  begins : (m : Mi) → IsBirth u r x.event → mi_at settings u (x ∷ r) ≡ Some m
      → In (facts.Life u m) x.facts
      → Carried settings u x r

carry : (settings : Settings) (u : ℕ) (x : Happening) (r : Run)
    → Part settings u r x.event x.facts (life settings u (x ∷ r)) → Carried settings u x r
unfolding mi_at
carry settings u x r (parts.same is none) = stays (ap mi_of is)
carry settings u x r (parts.ticks next l ev living is) = stays (ap mi_of is ∙ sym (ap mi_of living))
carry settings u x r (parts.hears number octets l a came living sec right is) =
    stays (ap mi_of is ∙ sym (ap mi_of living))
carry settings u x r (parts.born l none birth is fact) = begins l.member.mi birth (ap mi_of is) fact

pub carried : (settings : Settings) (users : List UserFrame) (u : ℕ) (x : Happening) (r : Run)
    → IsStep settings users x r → Carried settings u x r
carried settings users u x r step = carry settings u x r (part settings users u x r step)

-- ---- identifiers that were drawn

abbrev mis : List Birth → List Mi
mis bs = map (λ b. b.mi) bs

more : (f : List Fact) (bs : List Birth) (m : Mi) → In m (mis bs) → In m (mis (gather born f bs))
more [] bs m i = i
more (fact ∷ later) bs m i = more later (with_one (born fact) bs) m (one (born fact) i)
  where
    one : (o : Option Birth) → In m (mis bs) → In m (mis (with_one o bs))
    one None i = i
    one (Some b) i = inr i

drawn-here : (f : List Fact) (bs : List Birth) (u : ℕ) (m : Mi) → In (facts.Life u m) f
    → In m (mis (gather born f bs))
drawn-here [] bs u m i = absurd i
drawn-here (fact ∷ later) bs u m (inl e) =
    let here : born fact ≡ Some (record { station = u; mi = m }) = ap born (sym e) in
    more later (with_one (born fact) bs) m (rw here (inl refl))
drawn-here (fact ∷ later) bs u m (inr i) = drawn-here later (with_one (born fact) bs) u m i

fewer-one : (o : Option Birth) (bs : List Birth) → AllDiffer (mis (with_one o bs))
    → AllDiffer (mis bs)
fewer-one None bs all = all
fewer-one (Some b) bs all = all.1

fewer : (f : List Fact) (bs : List Birth) → AllDiffer (mis (gather born f bs)) → AllDiffer (mis bs)
fewer [] bs all = all
fewer (fact ∷ later) bs all = fewer-one (born fact) bs (fewer later (with_one (born fact) bs) all)

one-more : (o : Option Birth) (bs : List Birth) (m : Mi) → In m (mis bs)
    → In m (mis (with_one o bs))
one-more None bs m i = i
one-more (Some b) bs m i = inr i

new-here : (f : List Fact) (bs : List Birth) (u : ℕ) (m : Mi) → In (facts.Life u m) f
    → AllDiffer (mis (gather born f bs)) → In m (mis bs) → ⊥
new-here [] bs u m i all there = i
new-here (fact ∷ later) bs u m (inl e) all there =
    let here : born fact ≡ Some (record { station = u; mi = m }) = ap born (sym e) in
    let front = subst (λ o. AllDiffer (mis (with_one o bs))) here
    (fewer later (with_one (born fact) bs) all) in
    differs-in m m (mis bs) front.0 there refl
new-here (fact ∷ later) bs u m (inr i) all there =
    new-here later (with_one (born fact) bs) u m i all (one-more (born fact) bs m there)

drawn-more : (x : Happening) (r : Run) (m : Mi) → In m (drawn_mis r) → In m (drawn_mis (x ∷ r))
unfolding births
drawn-more x r m i = more x.facts (births r) m i

drawn-now : (x : Happening) (r : Run) (u : ℕ) (m : Mi) → In (facts.Life u m) x.facts
    → In m (drawn_mis (x ∷ r))
unfolding births
drawn-now x r u m i = drawn-here x.facts (births r) u m i

drawn-new : (x : Happening) (r : Run) (u : ℕ) (m : Mi) → In (facts.Life u m) x.facts
    → AllDiffer (drawn_mis (x ∷ r)) → In m (drawn_mis r) → ⊥
unfolding births
drawn-new x r u m i all there = new-here x.facts (births r) u m i all there

pub drawn-before : (x : Happening) (r : Run) → AllDiffer (drawn_mis (x ∷ r))
    → AllDiffer (drawn_mis r)
unfolding births
drawn-before x r all = fewer x.facts (births r) all

-- one event begins the life of one station
one-birth : (u v : ℕ) (r : Run) (e : Event) → IsBirth u r e → IsBirth v r e → u ≡ v
one-birth u v r e (first name sci priority ev is) (first name2 sci2 priority2 ev2 is2) = sym is
    ∙ is2
one-birth u v r e (first name sci priority ev is) (again ev2) = absurd (cc (ev, ev2))
one-birth u v r e (again ev) (first name2 sci2 priority2 ev2 is2) = absurd (cc (ev, ev2))
one-birth u v r e (again ev) (again ev2) = let f = sym ev ∙ ev2 in cc (f)

-- ---- what holds after every run

pub record Stands (settings : Settings) (r : Run) : Type 0 where
  pub present : (u : ℕ) (m : Mi) → mi_at settings u r ≡ Some m → In m (drawn_mis r)
  pub apart : (u v : ℕ) (m : Mi) → mi_at settings u r ≡ Some m → mi_at settings v r ≡ Some m → u ≡ v
  pub there : (u : ℕ) (m : Mi) → mi_at settings u r ≡ Some m → Exists u r

stands-none : (settings : Settings) → Stands settings []
unfolding mi_at life
stands-none settings = record {
  present = λ u m e. absurd (cc (e));
  apart =
      λ u v m e f. absurd (cc (e));
  there = λ u m e. absurd (cc (e));
}

stations-on : (x : Happening) (r : Run)
    → length (stations (x ∷ r)) ≡ length (stations r) + length (started x.event)
unfolding stations
stations-on x r = length-append (stations r) (started x.event)

birth-there : (settings : Settings) (users : List UserFrame) (u : ℕ) (x : Happening) (r : Run)
    → IsStep settings users x r → IsBirth u r x.event → Exists u (x ∷ r)
birth-there settings users u x r step (first name sci priority ev is) =
    let count = stations-on x r in
    let one : length (started x.event) ≡ 1 = rw ev refl in omega arith
birth-there settings users u x r step (again ev) =
    let here = (subst (λ e. IsAllowed settings users r x e) ev step.in_order.1).0 in
    let count = stations-on x r in omega arith

stands-on : (settings : Settings) (users : List UserFrame) (x : Happening) (r : Run)
    → IsStep settings users x r → AllDiffer (drawn_mis (x ∷ r))
    → Stands settings r → Stands settings (x ∷ r)
stands-on settings users x r step all h = record {
  present = λ u m e. elim (carried settings users u x r step) [
    | stays is ↦ drawn-more x r m (h.present u m (sym is ∙ e))
    | begins n birth is fact ↦ let same : n ≡ m = let f = sym is ∙ e in cc (f) in
        drawn-now x r u m (subst (λ k. In (facts.Life u k) x.facts) same fact)
  ];
  apart = λ u v m e f. elim (carried settings users u x r step) [
    | stays is ↦ elim (carried settings users v x r step) [
      | stays too ↦ h.apart u v m (sym is ∙ e) (sym too ∙ f)
      | begins n birth too fact ↦ let same : n ≡ m = let g = sym too ∙ f in cc (g) in
          absurd (drawn-new x r v m (subst (λ k. In (facts.Life v k) x.facts) same fact) all
          (h.present u m (sym is ∙ e)))
    ]
    | begins n birth is fact ↦ elim (carried settings users v x r step) [
      | stays too ↦ let same : n ≡ m = let g = sym is ∙ e in cc (g) in
          absurd (drawn-new x r u m (subst (λ k. In (facts.Life u k) x.facts) same fact) all
          (h.present v m (sym too ∙ f)))
      | begins k birth2 too fact2 ↦ one-birth u v r x.event birth birth2
    ]
  ];
  there = λ u m e. elim (carried settings users u x r step) [
    | stays is ↦ let before = h.there u m (sym is ∙ e) in let count = stations-on x r in omega arith
    | begins n birth is fact ↦ birth-there settings users u x r step birth
  ];
}

-- ---- over a run

module _ (settings : Settings) (users : List UserFrame) (run : Run)
    (stepped : IsStepped settings users run) (fresh : AllDiffer (drawn_mis run)) where
  pub step-at : (n : ℕ) (x : Happening) → n < length run → At run n x
      → IsStep settings users x (upto n run)
  step-at n x high at = (subst (IsStepped settings users) at
      (to-upto (IsStepped settings users) (λ y r s. s.1) (suc n) run stepped)).0

  all-at : (n : ℕ) → AllDiffer (drawn_mis (upto n run))
  all-at n = to-upto (λ r. AllDiffer (drawn_mis r)) drawn-before n run fresh

  pub stands-at : (n : ℕ) → n ≤ length run → Stands settings (upto n run)
  stands-at n high =
      along (Stands settings) run n high (stands-none settings)
      (λ k x p at h. stands-on settings users x (upto k run) (step-at k x (omega arith) at)
      (subst (λ r. AllDiffer (drawn_mis r)) at (all-at (suc k))) h)

  -- no event begins a life whose identifier a station has already
  pub no-birth-of : (u v : ℕ) (m : Mi) (n : ℕ) (x : Happening) → n < length run → At run n x
      → mi_at settings v (upto n run) ≡ Some m
      → In (facts.Life u m) x.facts → ⊥
  no-birth-of u v m n x high at here fact =
      drawn-new x (upto n run) u m fact (subst (λ r. AllDiffer (drawn_mis r)) at (all-at (suc n)))
      ((stands-at n (omega arith)).present v m here)

  drawn-later : (m : Mi) (a b : ℕ) → a ≤ b → b ≤ length run → In m (drawn_mis (upto a run))
      → In m (drawn_mis (upto b run))
  drawn-later m a b low high i =
      from_to (λ n. In m (drawn_mis (upto n run))) a b low i
      (λ n p q j. let s = event-at n run (omega arith) in
      subst (λ r. In m (drawn_mis r)) (sym s.1) (drawn-more s.0 (upto n run) m j))

  -- a life that has ended does not come back
  abbrev Gone : Mi → ℕ → Type 0
  Gone m n = (v : ℕ) → mi_at settings v (upto n run) ≡ Some m → ⊥

  gone-on : (m : Mi) (n : ℕ) → n < length run → In m (drawn_mis (upto n run)) → Gone m n
      → Gone m (suc n)
  gone-on m n high drawn gone v e =
      let s = event-at n run high in
      let x : Happening = s.0 in
      let here = subst (λ r. mi_at settings v r ≡ Some m) s.1 e in
      elim (carried settings users v x (upto n run) (step-at n x high s.1)) [
        | stays is ↦ gone v (sym is ∙ here)
        | begins k birth is fact ↦ let same : k ≡ m = let f = sym is ∙ here in cc (f) in
            drawn-new x (upto n run) v m (subst (λ j. In (facts.Life v j) x.facts) same fact)
            (subst (λ r. AllDiffer (drawn_mis r)) s.1 (all-at (suc n))) drawn
      ]

  gone-later : (m : Mi) (a b : ℕ) → a ≤ b → b ≤ length run → In m (drawn_mis (upto a run))
      → Gone m a → Gone m b
  gone-later m a b low high drawn gone =
      from_to (Gone m) a b low gone (λ n p q g. gone-on m n (omega arith)
      (drawn-later m a n p (omega arith) drawn) g)

  -- it goes on in one station, or is gone
  here-or-gone : (u : ℕ) (m : Mi) (a b : ℕ) → a ≤ b → b ≤ length run
      → mi_at settings u (upto a run) ≡ Some m
      → (mi_at settings u (upto b run) ≡ Some m) ⊎ Gone m b
  here-or-gone u m a b low high e =
      let drawn = (stands-at a (omega arith)).present u m e in
      from_to (λ n. (mi_at settings u (upto n run) ≡ Some m) ⊎ Gone m n) a b low (inl e)
      (λ n p q h. by_sum h
      (λ here. let s = event-at n run (omega arith) in
      let x : Happening = s.0 in
      elim (carried settings users u x (upto n run) (step-at n x (omega arith) s.1)) [
        | stays is ↦ inl (subst (λ r. mi_at settings u r ≡ Some m) (sym s.1) (is ∙ here))
        | begins k birth is fact ↦ inr (left n x (omega arith) s.1
            (drawn-later m a n p (omega arith) drawn) here k birth is fact)
      ])
      (λ gone. inr (gone-on m n (omega arith) (drawn-later m a n p (omega arith) drawn) gone)))
    where
      left : (n : ℕ) (x : Happening) → n < length run → At run n x → In m (drawn_mis (upto n run))
          → mi_at settings u (upto n run) ≡ Some m
          → (k : Mi) → IsBirth u (upto n run) x.event → mi_at settings u (x ∷ upto n run) ≡ Some k
          → In (facts.Life u k) x.facts → Gone m (suc n)
      left n x less at drawn here k birth is fact v e =
          let now = subst (λ r. mi_at settings v r ≡ Some m) at e in
          let all = subst (λ r. AllDiffer (drawn_mis r)) at (all-at (suc n)) in
          elim (carried settings users v x (upto n run) (step-at n x less at)) [
            | stays too ↦
                let same : v ≡ u = (stands-at n (omega arith)).apart v u m (sym too ∙ now) here in
                let mine = subst (λ w. mi_at settings w (x ∷ upto n run) ≡ Some m) same now in
                let again_same : k ≡ m = let f = sym is ∙ mine in cc (f) in
                drawn-new x (upto n run) u m (subst
                (λ j. In (facts.Life u j) x.facts) again_same fact) all drawn
            | begins j birth2 too fact2 ↦
                let again_same : j ≡ m = let f = sym too ∙ now in cc (f) in
                drawn-new x (upto n run) v m (subst
                (λ w. In (facts.Life v w) x.facts) again_same fact2) all drawn
          ]

  -- Two stations with one identifier, at whatever moments, are one, and its life is whole between
  -- them.
  pub one-life : (u v : ℕ) (m : Mi) (a b : ℕ) → a ≤ b → b ≤ length run
      → mi_at settings u (upto a run) ≡ Some m → mi_at settings v (upto b run) ≡ Some m
      → (v ≡ u) × ((n : ℕ) → a ≤ n → n ≤ b → mi_at settings u (upto n run) ≡ Some m)
  one-life u v m a b low high e f = (
    by_sum (here-or-gone u m a b low high e) (λ here. (stands-at b high).apart v u m f here)
        (λ gone. absurd (gone v f)),
    λ n p q. by_sum (here-or-gone u m a n p (omega arith) e) (λ here. here)
        (λ gone. absurd (gone-later m n b q high
        (drawn-later m a n p (omega arith) ((stands-at a (omega arith)).present u m e)) gone v
        f)),
  )

  -- a station that isn't restarted stays in its life
  pub unbroken-life : (u : ℕ) (m : Mi) (a b : ℕ) → a ≤ b → b ≤ length run
      → mi_at settings u (upto a run) ≡ Some m
      → ((n : ℕ) (x : Happening) → a ≤ n → n < b → At run n x → x.event ≡ events.Restart u → ⊥)
      → (n : ℕ) → a ≤ n → n ≤ b → mi_at settings u (upto n run) ≡ Some m
  unbroken-life u m a b low high e none n p q =
      from_to (λ k. mi_at settings u (upto k run) ≡ Some m) a n p e
      (λ k l j here. let s = event-at k run (omega arith) in
      let x : Happening = s.0 in
      elim (carried settings users u x (upto k run) (step-at k x (omega arith) s.1)) [
        | stays is ↦ subst (λ r. mi_at settings u r ≡ Some m) (sym s.1) (is ∙ here)
        | begins w birth is fact ↦ absurd
            (no-birth k x (omega arith) l (omega arith) s.1 here birth)
      ])
    where
      no-birth : (k : ℕ) (x : Happening) → k < length run → a ≤ k → k < b → At run k x
          → mi_at settings u (upto k run) ≡ Some m → IsBirth u (upto k run) x.event → ⊥
      no-birth k x high l j at here (first name sci priority ev is) = let there =
          (stands-at k (omega arith)).there u m here in omega (arith, there, is)
      no-birth k x high l j at here (again ev) = none k x l j at ev
