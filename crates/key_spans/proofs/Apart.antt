-- Spans under one number do not overlap.
use Rattle.std.proofs.Common.{◌≡◌, ◌∙◌, ◌≤◌, ◌+◌, ℕ, Bool, true, false, List, [], ◌∷◌, ◌++◌, Option, Some, None, refl, sym, ap, subst, arith}
use Rattle.std.specs.Prelude.{if◌then◌else◌, min, map, is_some, IsTrue}
use Rattle.std.specs.Option.{option_or}
use Rattle.lan_base.specs.declared.association_number.AssociationNumber.{AssociationNumber}
use Rattle.lan_core.specs.declared.fact.Fact.{Fact}
use Rattle.transcript_reader.specs.Time.{moves}
use Rattle.key_spans.specs.declared.clock.Clock.{Clock}
use Rattle.key_spans.specs.declared.span.Span.{Span}
use Rattle.key_spans.specs.declared.span.End.{End}
use Rattle.key_spans.specs.declared.span.Turn.{Turn}
use Rattle.key_spans.specs.declared.span.Turn.TheVariants.{Ends, Begins, Relieves}
use Rattle.key_spans.specs.declared.span.Why.TheVariants.{Replaced}
use Rattle.key_spans.specs.Spans.{clock_after, lived, opened, spans, spans_from, start, touched, turn_by, turned}
use Rattle.key_spans.specs.inside.Taking.{HasEnded}
use Rattle.key_spans.specs.Times.{HasEndedAt}
use Rattle.key_spans.proofs.OneMore.{by_sum, ends, opens, stays}

-- ---- all spans of a list

abbrev pub Every : (Span → Type 0) → List Span → Type 0
Every P [] = Unit {0}
Every P (x ∷ xs) = P x × Every P xs

pub every-at : (P : Span → Type 0) (xs ys : List Span) (x : Span) → Every P (xs ++ x ∷ ys) → P x
every-at P [] ys x all = all.0
every-at P (z ∷ xs) ys x all = every-at P xs ys x all.1

-- ---- the clock

abbrev pub most : ℕ
most = 4294967295

later : (at : ℕ) → at ≤ most → (b : Bool)
    → (at ≤ (if b then min (at + 1) most else at)) × ((if b then min (at + 1) most else at) ≤ most)
later at few true = (omega (arith, few), omega (arith, few))
later at few false = (omega (arith, few), few)

pub rises : (at : Clock) (f : Fact) → at.ticks ≤ most
    → (at.ticks ≤ (clock_after at f).ticks) × ((clock_after at f).ticks ≤ most)
rises at f few = later at.ticks few (moves at.own f)

-- ---- ends

-- an end that a key has is not later than this
abbrev pub IsOver : ℕ → Span → Type 0
IsOver at x = (e : End) → x.ended ≡ Some e → e.at ≤ at

over-turned : (at : ℕ) (t : Turn) (x : Span) → x.ended ≡ None → IsOver at (turned at t x)
over-turned at (Ends why) x none e is =
    let now : at ≡ e.at = ap-at is in omega (arith, now)
  where
    at-of : Option End → ℕ
    at-of None = 0
    at-of (Some e) = e.at

    ap-at : Some (record { at = at; why = why }) ≡ Some e → at ≡ e.at
    ap-at is = ap at-of is
over-turned at Begins x none e is = absurd (cc (none, is))
over-turned at Relieves x none e is = go (is_some x.began) is
  where
    go : (b : Bool) → (if b then record x { relieved = option_or x.relieved (Some at) } else x).ended ≡ Some e
        → e.at ≤ at
    go true is = absurd (cc (none, is))
    go false is = absurd (cc (none, is))

over-touched : (at : ℕ) (t : Option Turn) (x : Span) → IsOver at x → IsOver at (touched at t x)
over-touched at None x over = over
over-touched at (Some t) x over = go x.ended refl
  where
    go : (o : Option End) → x.ended ≡ o → IsOver at (touched at (Some t) x)
    go None is =
        subst (λ (b : Bool). IsOver at (if b then x else turned at t x)) (sym (ap is_some is))
        (over-turned at t x is)
    go (Some e) is =
        subst (λ (b : Bool). IsOver at (if b then x else turned at t x)) (sym (ap is_some is)) over

over-later : (at next : ℕ) (x : Span) → at ≤ next → IsOver at x → IsOver next x
over-later at next x less over e is = let had = over e is in omega (arith, less, had)

ends-by : (at : ℕ) (x : Span) → HasEnded x → IsOver at x → HasEndedAt at x
ends-by at x ended over = go x.ended refl ended
  where
    go : (o : Option End) → x.ended ≡ o → IsTrue (is_some o) → HasEndedAt at x
    go None is there = absurd (cc there)
    go (Some e) is there = record { end = e; ended = is; before = over e is }

-- ---- one key, and those that come later

module _ (s : ℕ) (an : AssociationNumber) where
  lived-ended : (at : Clock) (facts : List Fact) (x : Span) → HasEnded x → lived s an at facts x ≡ x
  lived-ended at [] x ended = refl
  lived-ended at (f ∷ facts) x ended =
      ap (lived s an (clock_after at f) facts) (stays at.ticks (turn_by s an f) x ended)
      ∙ lived-ended (clock_after at f) facts x ended

  installed-turned : (at : ℕ) (t : Turn) (x : Span) → (turned at t x).installed ≡ x.installed
  installed-turned at (Ends why) x = refl
  installed-turned at Begins x = refl
  installed-turned at Relieves x = go (is_some x.began)
    where
      go : (b : Bool)
          → (if b then record x { relieved = option_or x.relieved (Some at) } else x).installed ≡ x.installed
      go true = refl
      go false = refl

  pub installed-touched : (at : ℕ) (t : Option Turn) (x : Span) → (touched at t x).installed ≡ x.installed
  installed-touched at None x = refl
  installed-touched at (Some t) x = go (is_some x.ended)
    where
      go : (b : Bool) → (if b then x else turned at t x).installed ≡ x.installed
      go true = refl
      go false = installed-turned at t x

  pub installed-lived : (at : Clock) (facts : List Fact) (x : Span) → (lived s an at facts x).installed ≡ x.installed
  installed-lived at [] x = refl
  installed-lived at (f ∷ facts) x =
      installed-lived (clock_after at f) facts (touched at.ticks (turn_by s an f) x)
      ∙ installed-touched at.ticks (turn_by s an f) x

  abbrev After : Span → Span → Type 0
  After x y = HasEndedAt y.installed x

  abbrev Tail : Clock → Fact → List Fact → Span → Type 0
  Tail at f facts x = Every (After (lived s an (clock_after at f) facts (touched at.ticks (turn_by s an f) x)))
      (spans_from s an (clock_after at f) facts)

  abbrev Whole : Clock → Fact → List Fact → Span → List Span → Type 0
  Whole at f facts x o = Every (After (lived s an (clock_after at f) facts (touched at.ticks (turn_by s an f) x)))
      (map (lived s an (clock_after at f) facts) o ++ spans_from s an (clock_after at f) facts)

  with-first : (at : Clock) (f : Fact) (facts : List Fact) (x : Span) → IsOver at.ticks x → Tail at f facts x
      → Whole at f facts x (opened s an at.ticks f)
  with-first at f facts x over tail = by_sum (opens s an at.ticks f) go-none go-one
    where
      go-none : opened s an at.ticks f ≡ [] → Whole at f facts x (opened s an at.ticks f)
      go-none none = subst (Whole at f facts x) (sym none) tail

      go-one : (y : Span) × (opened s an at.ticks f ≡ y ∷ []) × (turn_by s an f ≡ Some (Ends Replaced))
          × (y.installed ≡ at.ticks) × (y.began ≡ None) × (y.ended ≡ None)
          → Whole at f facts x (opened s an at.ticks f)
      go-one one =
          let t = touched at.ticks (turn_by s an f) x in
          let ended : HasEnded t = subst (λ (o : Option Turn). HasEnded (touched at.ticks o x)) (sym one.2) (ends at.ticks Replaced x) in
          let by : HasEndedAt at.ticks t = ends-by at.ticks t ended (over-touched at.ticks (turn_by s an f) x over) in
          let lived-by : HasEndedAt at.ticks (lived s an (clock_after at f) facts t) =
          subst (HasEndedAt at.ticks) (sym (lived-ended (clock_after at f) facts t ended)) by in
          let starts : (lived s an (clock_after at f) facts one.0).installed ≡ at.ticks =
          installed-lived (clock_after at f) facts one.0 ∙ one.3 in
          subst (Whole at f facts x) (sym one.1)
          (subst (λ (n : ℕ). HasEndedAt n (lived s an (clock_after at f) facts t)) (sym starts) lived-by, tail)

  pub apart : (at : Clock) (facts : List Fact) (x : Span) → at.ticks ≤ most → IsOver at.ticks x
      → Every (After (lived s an at facts x)) (spans_from s an at facts)
  apart at [] x few over = tt
  apart at (f ∷ facts) x few over =
      let more = rises at f few in
      with-first at f facts x over
      (apart (clock_after at f) facts (touched at.ticks (turn_by s an f) x) more.1
      (over-later at.ticks (clock_after at f).ticks (touched at.ticks (turn_by s an f) x) more.0
      (over-touched at.ticks (turn_by s an f) x over)))

  never : (y : Span) → y.ended ≡ None → (n : ℕ) → IsOver n y
  never y none n e is = absurd (cc (none, is))

  -- ---- all keys

  abbrev pub AreApart : List Span → Type 0
  AreApart [] = Unit {0}
  AreApart (x ∷ xs) = Every (After x) xs × AreApart xs

  abbrev All-apart : Clock → Fact → List Fact → List Span → Type 0
  All-apart at f facts o =
      AreApart (map (lived s an (clock_after at f) facts) o ++ spans_from s an (clock_after at f) facts)

  first-apart : (at : Clock) (f : Fact) (facts : List Fact) → at.ticks ≤ most
      → AreApart (spans_from s an (clock_after at f) facts) → All-apart at f facts (opened s an at.ticks f)
  first-apart at f facts few tail = by_sum (opens s an at.ticks f) go-none go-one
    where
      go-none : opened s an at.ticks f ≡ [] → All-apart at f facts (opened s an at.ticks f)
      go-none none = subst (All-apart at f facts) (sym none) tail

      go-one : (y : Span) × (opened s an at.ticks f ≡ y ∷ []) × (turn_by s an f ≡ Some (Ends Replaced))
          × (y.installed ≡ at.ticks) × (y.began ≡ None) × (y.ended ≡ None)
          → All-apart at f facts (opened s an at.ticks f)
      go-one one =
          subst (All-apart at f facts) (sym one.1)
          (apart (clock_after at f) facts one.0 (rises at f few).1 (never one.0 one.5 (clock_after at f).ticks), tail)

  pub all-apart : (at : Clock) (facts : List Fact) → at.ticks ≤ most → AreApart (spans_from s an at facts)
  all-apart at [] few = tt
  all-apart at (f ∷ facts) few =
      first-apart at f facts few (all-apart (clock_after at f) facts (rises at f few).1)

  apart-at : (before between behind : List Span) (x y : Span)
      → AreApart (before ++ x ∷ (between ++ y ∷ behind)) → HasEndedAt y.installed x
  apart-at [] between behind x y all = every-at (After x) between behind y all.0
  apart-at (z ∷ before) between behind x y all = apart-at before between behind x y all.1

  pub no-overlap : (facts : List Fact) (before between behind : List Span) (x y : Span)
      → spans s an facts ≡ before ++ x ∷ (between ++ y ∷ behind) → HasEndedAt y.installed x
  no-overlap facts before between behind x y is =
      apart-at before between behind x y (subst AreApart is (all-apart start facts (omega arith)))
