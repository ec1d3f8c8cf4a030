-- Keys of one station that transmit are under one number.
use Rattle.std.proofs.Common.{◌≡◌, ◌∙◌, ◌⊎◌, ℕ, Bool, true, false, List, [], ◌∷◌, ◌++◌, Option, Some, None, refl, sym, ap, subst, inl, inr}
use Rattle.std.specs.Prelude.{◌==◌, ◌&&◌, if◌then◌else◌, not, map, is_some, is_none, IsTrue}
use Rattle.std.specs.Option.{option_or}
use Rattle.std.proofs.lemmas.Bool.{eqb-true, and_parts}
use Rattle.lan_base.specs.AssociationNumbers.{number_of, same_an}
use Rattle.lan_base.specs.declared.association_number.AssociationNumber.{AssociationNumber}
use Rattle.lan_core.specs.declared.fact.Fact.{Fact}
use Rattle.lan_core.specs.declared.fact.Fact.TheVariants as shows
use Rattle.key_spans.specs.declared.clock.Clock.{Clock}
use Rattle.key_spans.specs.declared.span.Span.{Span}
use Rattle.key_spans.specs.declared.span.End.{End}
use Rattle.key_spans.specs.declared.span.Turn.TheVariants.{Ends, Begins, Relieves}
use Rattle.key_spans.specs.declared.span.Why.{Why}
use Rattle.key_spans.specs.declared.span.Why.TheVariants as whys
use Rattle.key_spans.specs.Spans.{clock_after, lived, opened, spans, spans_from, start, touched, turn_by, relieved_at}
use Rattle.key_spans.specs.inside.Taking.{HasEnded}
use Rattle.key_spans.specs.Times.{Transmits, is_held}
use Rattle.key_spans.proofs.OneMore.{by_sum, ends, opens}
use Rattle.key_spans.proofs.Apart.{Every, every-at}

-- what a key that transmits has
pub record IsSending (x : Span) : Type 0 where
  pub began : IsTrue (is_some x.began)
  pub alone : x.relieved ≡ None
  pub held : x.ended ≡ None

none-is : {A : Type 0} (o : Option A) → not (is_some o) ≡ true → o ≡ None
none-is None is = refl
none-is (Some a) is = absurd (cc is)

is-sending : (x : Span) → Transmits x → IsSending x
is-sending x sends =
    let first = and_parts (is_some x.began) (is_none x.relieved && is_held x) sends in
    let second = and_parts (is_none x.relieved) (is_held x) first.1 in
    record { began = first.0; alone = none-is x.relieved second.0; held = none-is x.ended second.1 }

-- the number of the key that a fact begins at station s
abbrev pub begun_by : ℕ → Fact → Option ℕ
begun_by s (shows.Began t id a epoch cause) = if t == s then Some (number_of a) else None
begun_by s _ = None

-- that of the last one
abbrev pub last_begun : ℕ → List Fact → Option ℕ
last_begun s [] = None
last_begun s (f ∷ facts) = option_or (last_begun s facts) (begun_by s f)

-- a key that has ended does not transmit
no-end : (at : ℕ) (why : Why) (x : Span) → IsSending (touched at (Some (Ends why)) x) → ⊥
no-end at why x t = go (touched at (Some (Ends why)) x) (ends at why x) t
  where
    go : (y : Span) → HasEnded y → IsSending y → ⊥
    go y ended t = cc (subst (λ (o : Option End). IsTrue (is_some o)) t.held ended)

-- nor does one in whose place another begins
no-relief : (at : ℕ) (x : Span) → IsSending (touched at (Some Relieves) x) → ⊥
no-relief at x t = go x.ended refl t
  where
    some-or : (o : Option ℕ) → option_or o (Some at) ≡ None → ⊥
    some-or None e = cc e
    some-or (Some n) e = cc e

    relieved : (b : Bool) → is_some x.began ≡ b
        → IsSending (if b then record x { relieved = option_or x.relieved (Some at) } else x) → ⊥
    relieved true is t = some-or x.relieved t.alone
    relieved false is t = cc (subst (λ (b : Bool). IsTrue b) is t.began)

    go : (o : Option End) → x.ended ≡ o → IsSending (if is_some x.ended then x else relieved_at at x) → ⊥
    go None is t =
        relieved (is_some x.began) refl
        (subst (λ (o : Option End). IsSending (if is_some o then x else relieved_at at x)) is t)
    go (Some e) is t =
        let own = subst (λ (o : Option End). IsSending (if is_some o then x else relieved_at at x)) is t in
        cc (sym is ∙ own.held)

module _ (s : ℕ) (an : AssociationNumber) where
  -- a key that transmits after a fact begins by it, or it did before and none begins
  abbrev From : Fact → Span → Type 0
  From f x = (begun_by s f ≡ Some (number_of an)) ⊎ ((begun_by s f ≡ None) × IsSending x)

  by-end : (at : ℕ) (why : Why) (b : Bool) (x : Span)
      → IsSending (touched at (if b then Some (Ends why) else None) x) → IsSending x
  by-end at why true x t = absurd (no-end at why x t)
  by-end at why false x t = t

  step : (at : ℕ) (f : Fact) (x : Span) → IsSending (touched at (turn_by s an f) x) → From f x
  step at (shows.Installed t id a epoch sak) x sends =
      inr (refl, by-end at whys.Replaced ((t == s) && same_an a an) x sends)
  step at (shows.Retired t id a) x sends = inr (refl, by-end at whys.Retired ((t == s) && same_an a an) x sends)
  step at (shows.Dropped t id a) x sends = inr (refl, by-end at whys.Dropped ((t == s) && same_an a an) x sends)
  step at (shows.Life t mi) x sends = inr (refl, by-end at whys.Restarted (t == s) x sends)
  step at (shows.Began t id a epoch cause) x sends = go (t == s) (same_an a an) refl sends
    where
      go : (b c : Bool) → same_an a an ≡ c
          → IsSending (touched at (if b then Some (if c then Begins else Relieves) else None) x)
          → ((if b then Some (number_of a) else None) ≡ Some (number_of an))
          ⊎ (((if b then Some (number_of a) else None) ≡ None) × IsSending x)
      go false c is sends = inr (refl, sends)
      go true true is sends = inl (ap (λ (n : ℕ). Some n) (eqb-true (number_of a) (number_of an) is))
      go true false is sends = absurd (no-relief at x sends)
  step at _ x sends = inr (refl, sends)

  sending : (at : Clock) (facts : List Fact) (x : Span) → IsSending (lived s an at facts x)
      → (last_begun s facts ≡ Some (number_of an)) ⊎ ((last_begun s facts ≡ None) × IsSending x)
  sending at [] x sends = inr (refl, sends)
  sending at (f ∷ facts) x sends =
      by_sum (sending (clock_after at f) facts (touched at.ticks (turn_by s an f) x) sends) late early
    where
      Goal : Type 0
      Goal = (last_begun s (f ∷ facts) ≡ Some (number_of an))
          ⊎ ((last_begun s (f ∷ facts) ≡ None) × IsSending x)

      late : last_begun s facts ≡ Some (number_of an) → Goal
      late is = inl (ap (λ (o : Option ℕ). option_or o (begun_by s f)) is)

      early : (last_begun s facts ≡ None) × IsSending (touched at.ticks (turn_by s an f) x) → Goal
      early none = by_sum (step at.ticks f x none.1) here before
        where
          here : begun_by s f ≡ Some (number_of an) → Goal
          here is = inl (ap (λ (o : Option ℕ). option_or o (begun_by s f)) none.0 ∙ is)

          before : (begun_by s f ≡ None) × IsSending x → Goal
          before is = inr (ap (λ (o : Option ℕ). option_or o (begun_by s f)) none.0 ∙ is.0, is.1)

  abbrev Sends : List Fact → Span → Type 0
  Sends facts x = IsSending x → last_begun s facts ≡ Some (number_of an)

  more : (f : Fact) (facts : List Fact) (xs : List Span) → Every (Sends facts) xs
      → Every (Sends (f ∷ facts)) xs
  more f facts [] all = tt
  more f facts (x ∷ xs) all =
      (λ sends. ap (λ (o : Option ℕ). option_or o (begun_by s f)) (all.0 sends), more f facts xs all.1)

  abbrev Whole : Clock → Fact → List Fact → List Span → Type 0
  Whole at f facts o = Every (Sends (f ∷ facts))
      (map (lived s an (clock_after at f) facts) o ++ spans_from s an (clock_after at f) facts)

  first-sends : (at : Clock) (f : Fact) (facts : List Fact) (y : Span) → y.began ≡ None
      → Sends (f ∷ facts) (lived s an (clock_after at f) facts y)
  first-sends at f facts y none sends = by_sum (sending (clock_after at f) facts y sends) late early
    where
      late : last_begun s facts ≡ Some (number_of an) → last_begun s (f ∷ facts) ≡ Some (number_of an)
      late is = ap (λ (o : Option ℕ). option_or o (begun_by s f)) is

      early : (last_begun s facts ≡ None) × IsSending y → last_begun s (f ∷ facts) ≡ Some (number_of an)
      early both = absurd (cc (subst (λ (o : Option ℕ). IsTrue (is_some o)) none both.1.began))

  with-first : (at : Clock) (f : Fact) (facts : List Fact)
      → Every (Sends (f ∷ facts)) (spans_from s an (clock_after at f) facts)
      → Whole at f facts (opened s an at.ticks f)
  with-first at f facts tail = by_sum (opens s an at.ticks f) go-none go-one
    where
      go-none : opened s an at.ticks f ≡ [] → Whole at f facts (opened s an at.ticks f)
      go-none none = subst (Whole at f facts) (sym none) tail

      go-one : (y : Span) × (opened s an at.ticks f ≡ y ∷ []) × (turn_by s an f ≡ Some (Ends whys.Replaced))
          × (y.installed ≡ at.ticks) × (y.began ≡ None) × (y.ended ≡ None) → Whole at f facts (opened s an at.ticks f)
      go-one one = subst (Whole at f facts) (sym one.1) (first-sends at f facts one.0 one.4, tail)

  all-sending : (at : Clock) (facts : List Fact) → Every (Sends facts) (spans_from s an at facts)
  all-sending at [] = tt
  all-sending at (f ∷ facts) =
      with-first at f facts
      (more f facts (spans_from s an (clock_after at f) facts) (all-sending (clock_after at f) facts))

  pub last-sends : (facts : List Fact) (before behind : List Span) (x : Span)
      → spans s an facts ≡ before ++ x ∷ behind → IsSending x → last_begun s facts ≡ Some (number_of an)
  last-sends facts before behind x is =
      every-at (Sends facts) before behind x (subst (Every (Sends facts)) is (all-sending start facts))

pub one-number : (s : ℕ) (one other : AssociationNumber) (facts : List Fact)
    (before behind front back : List Span) (a b : Span) → spans s one facts ≡ before ++ a ∷ behind
    → spans s other facts ≡ front ++ b ∷ back → Transmits a → Transmits b
    → number_of one ≡ number_of other
one-number s one other facts before behind front back a b first second sends also =
    same (sym (last-sends s one facts before behind a first (is-sending a sends))
    ∙ last-sends s other facts front back b second (is-sending b also))
  where
    number : Option ℕ → ℕ
    number None = 0
    number (Some n) = n

    same : Some (number_of one) ≡ Some (number_of other) → number_of one ≡ number_of other
    same is = ap number is
