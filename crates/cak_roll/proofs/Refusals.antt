-- What a refusal shows.
use Rattle.std.proofs.Common.{◌≡◌, refl, sym, ap, subst, ◌∙◌, ℕ, List, [], ◌∷◌, ◌++◌, inl, inr}
use Rattle.std.proofs.Common.{Bool, true, false, Option, Some, None, cond}
use Rattle.std.proofs.lemmas.Bool.{eqb-true}
use Rattle.std.specs.Prelude.{Contains, ◌==◌, nat_lt}
use Rattle.lan_base.specs.declared.frame.UserFrame.{UserFrame}
use Rattle.sak_exchange.specs.declared.held_key.Key.{Key}
use Rattle.lan_core.specs.declared.event.Event.TheVariants as events
use Rattle.lan_core.specs.declared.fact.Fact.{Fact}
use Rattle.lan_core.specs.declared.fact.Fact.TheVariants as facts
use Rattle.lan_core.specs.declared.fact.Lack.{Lack}
use Rattle.lan_core.specs.declared.settings.Settings.{Settings}
use Rattle.lan_core.specs.Run.{Run, Happening, facts_of}
use Rattle.lan_core.specs.Ledgers.{next_frame}
use Rattle.lan_core.specs.Lives.{life, transmitting_at}
use Rattle.lan_core.specs.Claims.{waiting, frame_of_claim}
use Rattle.lan_core.specs.Expected.{expected, Drawn, drawn_in, last_number, claim_fact, number_fact}
use Rattle.lan_core.specs.Expected.{lack, emit_facts}
use Rattle.lan_core.specs.Unstopped.{next_under}
use Rattle.lan_core.proofs.Public.{mapped, chained}
use Rattle.group_safety.proofs.Public.{In, contains-in}
use Rattle.cak_roll.specs.declared.event.GroupNumber.{GroupNumber}
use Rattle.cak_roll.specs.declared.event.GroupNumber.TheVariants.{First, Second}
use Rattle.cak_roll.specs.declared.event.TwinEvent.TheVariants as twins
use Rattle.cak_roll.specs.Twin.{Pair, same_group, setting_of, TwinHappening, Twin, part_of, run_of}
use Rattle.cak_roll.specs.Twin.{AreSteps, events_of, events_in, sent_as, only, IsTwinRun}
use Rattle.cak_roll.specs.Twin.{place_in, claimed_in, carrier, transmits}
use Rattle.cak_roll.proofs.Sends.{none-there, two-there, nothing-transmits}

same-group : (a b : GroupNumber) → same_group a b ≡ true → a ≡ b
same-group First First e = refl
same-group Second Second e = refl
same-group First Second e = absurd (cc e)
same-group Second First e = absurd (cc e)

-- a claim under a number shows it
claim-shows : (settings : Settings) (users : List UserFrame) (r : Run) (place user pn : ℕ)
    (drawn : Drawn) (shown : List Fact) → (pn == 0) ≡ false
    → expected settings users r (events.Claim place user pn) drawn ≡ Some shown
    → shown ≡ number_fact place pn (transmitting_at settings place r) ∷ []
unfolding expected
claim-shows settings users r place user pn drawn shown some is =
    let k = transmitting_at settings place r in
    let lives = mapped (λ l. claim_fact settings place r pn k ∷ []) (life settings place r) shown is in
    sym lives.2 ∙ ap (λ b. cond b (facts.Unclaimed place (lack settings place r k))
    (number_fact place pn k) ∷ []) some

emit-shows : (settings : Settings) (users : List UserFrame) (r : Run) (drawn : Drawn)
    (shown : List Fact) (s : ℕ) (why : Lack)
    → expected settings users r events.Emit drawn ≡ Some shown
    → In (facts.Unclaimed s why) shown → ⊥
unfolding expected
emit-shows settings users r drawn shown s why is there =
    let waits = chained (emit_facts users r) (waiting settings r) shown is in
    let puts = mapped (λ octets. facts.Framed (next_frame r) waits.0.station true octets ∷ [])
    (frame_of_claim users r waits.0) shown waits.2 in
    elim (subst (λ w. In (facts.Unclaimed s why) w) (sym puts.2) there) [
      | inl e ↦ cc (e)
      | inr none ↦ none
    ]

number-shows : (settings : Settings) (place pn s : ℕ) (why : Lack) (r : Run) (k : Option Key)
    → transmitting_at settings place r ≡ k → (pn == 0) ≡ false
    → pn ≡ cond (nat_lt last_number (next_under settings place r k)) 0
    (next_under settings place r k)
    → facts.Unclaimed s why ≡ number_fact place pn k → ⊥
number-shows settings place pn s why r None e some is same =
    let zeroth : pn ≡ 0 = is in
    let bad : (0 == 0) ≡ false = subst (λ (n : ℕ). (n == 0) ≡ false) zeroth some in cc (bad)
number-shows settings place pn s why r (Some k) e some is same = cc (same)

in-both : (xs ys : List Fact) (f : Fact) → In f (xs ++ ys) → (In f xs → ⊥) → (In f ys → ⊥) → ⊥
in-both [] ys f h no_x no_y = no_y h
in-both (x ∷ xs) ys f (inl e) no_x no_y = no_x (inl e)
in-both (x ∷ xs) ys f (inr h) no_x no_y = in-both xs ys f h (λ k. no_x (inr k)) no_y

-- one refusal in a part of a send: nothing was claimed there
pub refused-none : (pair : Pair) (users : List UserFrame) (t : Twin) (ys : Run)
    (g : GroupNumber) (s user place : ℕ) (why : Lack)
    → events_of ys ≡ events_in pair g t (twins.Send s user)
    → AreSteps (setting_of pair g) users ys (run_of g t)
    → Contains (facts_of ys) (facts.Unclaimed place why)
    → (carrier pair s t ≡ g) × (claimed_in pair g s t ≡ 0)
refused-none pair users t ys g s user place why same steps there =
    go (same_group (carrier pair s t) g) refl same
  where
    settings : Settings
    settings = setting_of pair g

    r : Run
    r = run_of g t

    at : ℕ
    at = place_in g s t

    pn : ℕ
    pn = claimed_in pair g s t

    here : In (facts.Unclaimed place why) (facts_of ys)
    here = contains-in (facts_of ys) (facts.Unclaimed place why) there

    two : (pn == 0) ≡ false → events_of ys ≡ events.Emit ∷ events.Claim at user pn ∷ [] → ⊥
    two some e =
        let o = two-there settings users ys r events.Emit (events.Claim at user pn) e steps in
        let y : Happening = o.first in
        let z : Happening = o.last in
        let shows = subst (λ v. expected settings users r v (drawn_in y.facts) ≡ Some y.facts)
        o.first_event o.first_step.shows in
        let claims = claim-shows settings users r at user pn (drawn_in y.facts) y.facts some shows in
        let emits = subst (λ v. expected settings users (y ∷ r) v (drawn_in z.facts)
        ≡ Some z.facts) o.last_event o.last_step.shows in
        let both = subst (λ w. In (facts.Unclaimed place why) (facts_of w)) o.whole here in
        in-both y.facts z.facts (facts.Unclaimed place why) both
        (λ h. elim (subst (λ w. In (facts.Unclaimed place why) w) claims h) [
          | inl q ↦ number-shows settings at pn place why r (transmitting_at settings at r) refl some
              refl q
          | inr none ↦ none
        ])
        (λ h. emit-shows settings users (y ∷ r) (drawn_in z.facts) z.facts place why emits h)

    go : (b : Bool) → (same_group (carrier pair s t) g) ≡ b
        → events_of ys ≡ only b (sent_as at user pn)
        → (carrier pair s t ≡ g) × (claimed_in pair g s t ≡ 0)
    go false is e =
        let nothing = subst (λ w. In (facts.Unclaimed place why) (facts_of w)) (none-there ys e) here in
        absurd nothing
    go true is e = within (pn == 0) refl e
      where
        within : (b : Bool) → (pn == 0) ≡ b
            → events_of ys ≡ cond b (events.Claim at user pn ∷ [])
            (events.Emit ∷ events.Claim at user pn ∷ [])
            → (carrier pair s t ≡ g) × (claimed_in pair g s t ≡ 0)
        within true zeroth e2 =
            (same-group (carrier pair s t) g is, eqb-true (claimed_in pair g s t) 0 zeroth)
        within false some e2 = absurd (two some e2)

pub refused-silent : (pair : Pair) (users : List UserFrame) (x : TwinHappening) (t : Twin)
    (g : GroupNumber) (s user place : ℕ) (why : Lack) → IsTwinRun pair users (x ∷ t)
    → x.event ≡ twins.Send s user → Contains (facts_of (part_of g x)) (facts.Unclaimed place why)
    → (transmits pair First s t ≡ false) × (transmits pair Second s t ≡ false)
refused-silent pair users x t g s user place why (step, before) sent there =
    let p = step.parts g in
    let none = refused-none pair users t (part_of g x) g s user place why
    (p.events ∙ ap (λ v. events_in pair g t v) sent) p.steps there in
    nothing-transmits pair users t s before
    (subst (λ n. claimed_in pair n s t ≡ 0) (sym none.0) none.1)
