-- What events of a race show, event by event.
use Rattle.std.proofs.Common.{◌≡◌, ◌<◌, ◌≤◌, ◌+◌, ℕ, zero, suc, List, [], ◌∷◌, ◌++◌, drop, get_or, length, refl, sym, ap, ◌∙◌, subst, arith, append_assoc, append-nil, add-one, drop-cons}
use Rattle.lan_base.specs.declared.frame.Protected.{Protected}
use Rattle.lan_core.specs.declared.event.Event.{Event}
use Rattle.lan_core.specs.declared.fact.Fact.{Fact}
use Rattle.lan_schedule.specs.inside.Weaves.{facts_in, frames_behind, kept_behind, shown_in}
use Rattle.lan_schedule.specs.inside.Weaves.{shown_of}

-- ---- one event more

shown-next : (es : List Event) (i : ℕ) (d : Event) (kept : List (List Fact)) (left : List Protected)
    → i < length es
    → shown_in (drop i es) kept left
    ≡ shown_of (get_or es i d) kept left
    ∷ shown_in (drop (i + 1) es) (kept_behind (get_or es i d) kept) (frames_behind (get_or es i d) left)
unfolding shown_in
shown-next es i d kept left less = rw (add-one, drop-cons es i d less) refl

pub shown-more : (es : List Event) (i : ℕ) (e : Event) (shown more whole : List (List Fact))
    (kept after : List (List Fact)) (left behind : List Protected) (facts : List Fact)
    → i < length es → e ≡ get_or es i e → shown ++ shown_in (drop i es) kept left ≡ whole
    → facts ≡ shown_of e kept left → after ≡ kept_behind e kept → behind ≡ frames_behind e left
    → more ≡ shown ++ facts ∷ [] → more ++ shown_in (drop (i + 1) es) after behind ≡ whole
shown-more es i e shown more whole kept after left behind facts less at before is is_after is_behind
    is_more =
    let next : shown_in (drop i es) kept left ≡ shown_of e kept left
    ∷ shown_in (drop (i + 1) es) (kept_behind e kept) (frames_behind e left) =
    subst (λ (x : Event). shown_in (drop i es) kept left ≡ shown_of x kept left
    ∷ shown_in (drop (i + 1) es) (kept_behind x kept) (frames_behind x left)) (sym at)
    (shown-next es i e kept left less) in
    ap (λ (l : List (List Fact)). l ++ shown_in (drop (i + 1) es) after behind) is_more
    ∙ append_assoc shown (facts ∷ []) (shown_in (drop (i + 1) es) after behind)
    ∙ ap (λ (f : List Fact). shown ++ (f ∷ shown_in (drop (i + 1) es) after behind)) is
    ∙ ap (λ (k : List (List Fact)). shown
    ++ (shown_of e kept left ∷ shown_in (drop (i + 1) es) k behind)) is_after
    ∙ ap (λ (f : List Protected). shown
    ++ (shown_of e kept left ∷ shown_in (drop (i + 1) es) (kept_behind e kept) f)) is_behind
    ∙ ap (λ (l : List (List Fact)). shown ++ l) (sym next) ∙ before

dropped : (es : List Event) (i : ℕ) → length es ≤ i → drop i es ≡ []
dropped [] zero past = refl
dropped [] (suc i) past = refl
dropped (e ∷ es) zero past = absurd (omega (arith, past))
dropped (e ∷ es) (suc i) past = dropped es i (omega (arith, past))

pub shown-whole : (es : List Event) (i : ℕ) (shown whole kept : List (List Fact))
    (left : List Protected) → length es ≤ i → shown ++ shown_in (drop i es) kept left ≡ whole
    → shown ≡ whole
unfolding shown_in
shown-whole es i shown whole kept left past is =
    sym (append-nil shown)
    ∙ ap (λ (l : List Event). shown ++ shown_in l kept left) (sym (dropped es i past)) ∙ is

-- ---- what is counted

facts-more : (before : List Fact) (shown : List (List Fact)) (facts : List Fact)
    → facts_in before (shown ++ facts ∷ []) ≡ facts_in before shown ++ facts
facts-more before [] facts = refl
facts-more before (s ∷ shown) facts = facts-more (before ++ s) shown facts

pub counted-more : (before : List Fact) (shown more : List (List Fact)) (facts : List Fact)
    → more ≡ shown ++ facts ∷ [] → facts_in before more ≡ facts_in before shown ++ facts
counted-more before shown more facts is =
    ap (λ (l : List (List Fact)). facts_in before l) is ∙ facts-more before shown facts

-- ---- what is left of what was kept
