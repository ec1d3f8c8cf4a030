-- That the rows stand for one fact more.
use Rattle.std.proofs.Common.{◌≡◌, ◌∙◌, ◌≤◌, ℕ, List, [], ◌∷◌, ◌++◌, Option, Some, None, All, refl, sym, ap, subst, arith}
use Rattle.std.specs.Prelude.{Result, Ok, Err, OnOk, OnErr, map, is_some, IsTrue}
use Rattle.std.proofs.lemmas.List.Elements.{All-nil, All-cons, All-append}
use Rattle.lan_base.specs.declared.association_number.AssociationNumber.{AssociationNumber}
use Rattle.lan_core.specs.declared.fact.Fact.{Fact}
use Rattle.tick_columns.specs.Columns.{IsThinned}
use Rattle.key_spans.specs.declared.clock.Clock.{Clock}
use Rattle.key_spans.specs.declared.span.Span.{Span}
use Rattle.key_spans.specs.declared.span.End.{End}
use Rattle.key_spans.specs.declared.span.Turn.TheVariants.{Ends}
use Rattle.key_spans.specs.declared.span.Why.TheVariants.{Replaced}
use Rattle.key_spans.specs.Spans.{clock, clock_after, lived, opened, spans, spans_from, start, touched, turn_by}
use Rattle.key_spans.specs.Standing.{KeptSpans, StandsFor, installed_at, row_at}
use Rattle.key_spans.specs.Times.{HasEndedAt}
use Rattle.key_spans.specs.inside.Taking.{AllEnded, AreBy, IsKept, IsFactTaken}
use Rattle.key_spans.proofs.OneMore.{by_sum, clock-more, opens, spans-more}
use Rattle.key_spans.proofs.Apart.{AreApart, all-apart, every-at, installed-lived, most, rises}

pub clock-rises : (at : Clock) (facts : List Fact) → at.ticks ≤ most → at.ticks ≤ (clock at facts).ticks
clock-rises at [] few = omega arith
clock-rises at (f ∷ facts) few =
    let now = rises at f few in
    let one = now.0 in
    let rest = clock-rises (clock_after at f) facts now.1 in
    omega (arith, one, rest)

module _ (s : ℕ) (an : AssociationNumber) where
  ended-front : (front : List Span) (last : Span) → AreApart s an (front ++ last ∷ []) → AllEnded front
  ended-front [] last apart = tt
  ended-front (x ∷ front) last apart =
      let by : HasEndedAt last.installed x =
      every-at (λ (y : Span). HasEndedAt y.installed x) front [] last apart.0 in
      (subst (λ (o : Option End). IsTrue (is_some o)) (sym by.ended) refl, ended-front front last apart.1)

  abbrev Under : ℕ → Span → Type 0
  Under at x = x.installed ≤ at

  times : (at : Clock) (facts : List Fact) → at.ticks ≤ most
      → All (λ x. x.installed ≤ (clock at facts).ticks) (spans_from s an at facts)
  times at [] few = All-nil (Under at.ticks)
  times at (f ∷ facts) few =
      All-append (Under (clock now facts).ticks) (map (lived s an now facts) (opened s an at.ticks f)) (spans_from s an now facts)
      (by_sum (opens s an at.ticks f) go-none go-one) (times now facts (rises at f few).1)
    where
      now : Clock
      now = clock_after at f

      Whole : List Span → Type 0
      Whole o = All (Under (clock now facts).ticks) (map (lived s an now facts) o)

      go-none : opened s an at.ticks f ≡ [] → Whole (opened s an at.ticks f)
      go-none none = subst Whole (sym none) (All-nil (Under (clock now facts).ticks))

      go-one : (y : Span) × (opened s an at.ticks f ≡ y ∷ []) × (turn_by s an f ≡ Some (Ends Replaced))
          × (y.installed ≡ at.ticks) × (y.began ≡ None) × (y.ended ≡ None) → Whole (opened s an at.ticks f)
      go-one one =
          let starts : (lived s an now facts one.0).installed ≡ at.ticks =
          installed-lived s an now facts one.0 ∙ one.3 in
          let later = rises at f few in
          let first = later.0 in
          let rest = clock-rises now facts later.1 in
          subst Whole (sym one.1)
          (All-cons (Under (clock now facts).ticks) (lived s an now facts one.0) []
          (subst (λ n. n ≤ (clock now facts).ticks) (sym starts) (omega (arith, first, rest)))
          (All-nil (Under (clock now facts).ticks)))

  pub spans-by : (facts : List Fact) → AreBy (clock start facts).ticks (spans s an facts)
  spans-by facts = record {
    ended = λ front last is. ended-front front last
        (subst (λ (xs : List Span). AreApart s an xs) is (all-apart s an start facts (omega arith)));
    times = times start facts (omega arith);
  }

pub one_more : (facts : List Fact) (f : Fact) (old new : KeptSpans) → StandsFor facts old → IsFactTaken f old new
    → StandsFor (facts ++ f ∷ []) new
one_more facts f old new stands taken = record {
  clock_is = taken.clock_is ∙ ap (λ (at : Clock). clock_after at f) stands.clock_is ∙ sym (clock-more start facts f);
  rows_are = λ s an.
      subst (λ (xs : List Span). IsThinned installed_at xs (row_at new.lanes s an))
      (ap (λ (at : Clock). map (touched at.ticks (turn_by s an f)) (spans s an facts) ++ opened s an at.ticks f) stands.clock_is
      ∙ sym (spans-more s an f start facts))
      (taken.rows_are s an (spans s an facts)
      (subst (λ (at : Clock). AreBy at.ticks (spans s an facts)) (sym stands.clock_is) (spans-by s an facts))
      (stands.rows_are s an));
}

pub none_more : (facts : List Fact) (old new : KeptSpans) → StandsFor facts old → IsKept old new → StandsFor facts new
none_more facts old new stands kept = record {
  clock_is = kept.clock_is ∙ stands.clock_is;
  rows_are = λ s an.
      kept.rows_are s an (spans s an facts)
      (subst (λ (at : Clock). AreBy at.ticks (spans s an facts)) (sym stands.clock_is) (spans-by s an facts))
      (stands.rows_are s an);
}

pub on_ok : {T E P Q : Type 0} (r : Result T E) → (P → Q) → OnOk r P → OnOk r Q
on_ok (Ok x) f p = f p
on_ok (Err e) f p = tt

pub on_err : {T E P Q : Type 0} (r : Result T E) → (P → Q) → OnErr r P → OnErr r Q
on_err (Ok x) f p = tt
on_err (Err e) f p = f p
