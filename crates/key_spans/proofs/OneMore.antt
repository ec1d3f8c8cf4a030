-- One fact more at the end of facts, and what it does to the rows.
use Rattle.std.proofs.Common.{◌≡◌, ◌∙◌, ◌⊎◌, ℕ, Bool, true, false, List, [], ◌∷◌, ◌++◌, Option, Some, None, refl, sym, ap, subst, inl, inr, append_assoc}
use Rattle.std.specs.Prelude.{◌==◌, ◌&&◌, if◌then◌else◌, map, is_some, IsTrue}
use Rattle.std.proofs.lemmas.List.{append-nil}
use Rattle.lan_base.specs.AssociationNumbers.{same_an}
use Rattle.lan_base.specs.declared.association_number.AssociationNumber.{AssociationNumber}
use Rattle.lan_core.specs.declared.fact.Fact.{Fact}
use Rattle.lan_core.specs.declared.fact.Fact.TheVariants as shows
use Rattle.key_spans.specs.declared.clock.Clock.{Clock}
use Rattle.key_spans.specs.declared.span.Span.{Span}
use Rattle.key_spans.specs.declared.span.End.{End}
use Rattle.key_spans.specs.declared.span.Turn.{Turn}
use Rattle.key_spans.specs.declared.span.Turn.TheVariants.{Ends}
use Rattle.key_spans.specs.declared.span.Why.{Why}
use Rattle.key_spans.specs.declared.span.Why.TheVariants.{Replaced}
use Rattle.key_spans.specs.Spans.{clock, clock_after, lived, opened, spans_from, touched, turn_by, turned}
use Rattle.key_spans.specs.inside.Taking.{HasEnded}

pub by_sum : {A B P : Type 0} → A ⊎ B → (A → P) → (B → P) → P
by_sum (inl a) f g = f a
by_sum (inr b) f g = g b

pub clock-more : (at : Clock) (facts : List Fact) (f : Fact)
    → clock at (facts ++ f ∷ []) ≡ clock_after (clock at facts) f
clock-more at [] f = refl
clock-more at (fact ∷ later) f = clock-more (clock_after at fact) later f

module _ (s : ℕ) (an : AssociationNumber) (f : Fact) where
  lived-more : (at : Clock) (facts : List Fact) (span : Span)
      → lived s an at (facts ++ f ∷ []) span
      ≡ touched (clock at facts).ticks (turn_by s an f) (lived s an at facts span)
  lived-more at [] span = refl
  lived-more at (fact ∷ later) span =
      lived-more (clock_after at fact) later (touched at.ticks (turn_by s an fact) span)

  all-lived : (at : Clock) (facts : List Fact) (xs : List Span)
      → map (lived s an at (facts ++ f ∷ [])) xs
      ≡ map (touched (clock at facts).ticks (turn_by s an f)) (map (lived s an at facts) xs)
  all-lived at facts [] = refl
  all-lived at facts (x ∷ xs) =
      ap (λ (y : Span). y ∷ map (lived s an at (facts ++ f ∷ [])) xs) (lived-more at facts x)
      ∙ ap (λ (ys : List Span). touched (clock at facts).ticks (turn_by s an f) (lived s an at facts x) ∷ ys)
      (all-lived at facts xs)

  none-lived : (at : Clock) (xs : List Span) → map (lived s an at []) xs ≡ xs
  none-lived at [] = refl
  none-lived at (x ∷ xs) = ap (λ (ys : List Span). x ∷ ys) (none-lived at xs)

  pub spans-more : (at : Clock) (facts : List Fact)
      → spans_from s an at (facts ++ f ∷ [])
      ≡ map (touched (clock at facts).ticks (turn_by s an f)) (spans_from s an at facts)
      ++ opened s an (clock at facts).ticks f
  spans-more at [] =
      append-nil (map (lived s an (clock_after at f) []) (opened s an at.ticks f))
      ∙ none-lived (clock_after at f) (opened s an at.ticks f)
  spans-more at (fact ∷ later) =
      let now = clock_after at fact in
      let t = touched (clock now later).ticks (turn_by s an f) in
      let own = map (lived s an now later) (opened s an at.ticks fact) in
      ap (λ (ys : List Span). ys ++ spans_from s an now (later ++ f ∷ []))
      (all-lived now later (opened s an at.ticks fact))
      ∙ ap (λ (ys : List Span). map t own ++ ys) (spans-more now later)
      ∙ sym (append_assoc (map t own) (map t (spans_from s an now later)) (opened s an (clock now later).ticks f))
      ∙ ap (λ (ys : List Span). ys ++ opened s an (clock now later).ticks f)
      (sym (both t own (spans_from s an now later)))
    where
      both : (t : Span → Span) (xs ys : List Span) → map t (xs ++ ys) ≡ map t xs ++ map t ys
      both t [] ys = refl
      both t (x ∷ xs) ys = ap (λ (zs : List Span). t x ∷ zs) (both t xs ys)

-- ---- rows

pub stays : (at : ℕ) (t : Option Turn) (x : Span) → HasEnded x → touched at t x ≡ x
stays at None x ended = refl
stays at (Some t) x ended = go x.ended refl ended
  where
    go : (e : Option End) → x.ended ≡ e → IsTrue (is_some e) → touched at (Some t) x ≡ x
    go None is there = absurd (cc there)
    go (Some e) is there = ap (λ (o : Option End). if is_some o then x else turned at t x) is

-- a fact opens nothing, or one key, and then the one before it is replaced
pub opens : (s : ℕ) (an : AssociationNumber) (at : ℕ) (f : Fact)
    → (opened s an at f ≡ [])
    ⊎ ((span : Span) × (opened s an at f ≡ span ∷ []) × (turn_by s an f ≡ Some (Ends Replaced))
    × (span.installed ≡ at) × (span.began ≡ None) × (span.ended ≡ None))
opens s an at (shows.Installed t id a epoch sak) = go ((t == s) && same_an a an) refl
  where
    new : Span
    new = record {
      station = t;
      number = a;
      id = id;
      epoch = epoch;
      installed = at;
      began = None;
      relieved = None;
      ended = None;
    }

    go : (b : Bool) → ((t == s) && same_an a an) ≡ b
        → (opened s an at (shows.Installed t id a epoch sak) ≡ [])
        ⊎ ((span : Span) × (opened s an at (shows.Installed t id a epoch sak) ≡ span ∷ [])
        × (turn_by s an (shows.Installed t id a epoch sak) ≡ Some (Ends Replaced))
        × (span.installed ≡ at) × (span.began ≡ None) × (span.ended ≡ None))
    go true e = inr (
      new,
      ap (λ (b : Bool). if b then new ∷ [] else []) e,
      ap (λ (b : Bool). if b then Some (Ends Replaced) else None) e,
      refl,
      refl,
      refl,
    )
    go false e = inl (ap (λ (b : Bool). if b then new ∷ [] else []) e)
opens s an at _ = inl refl

pub ends : (at : ℕ) (why : Why) (x : Span) → HasEnded (touched at (Some (Ends why)) x)
ends at why x = go x.ended refl
  where
    t : Span → Span
    t x = touched at (Some (Ends why)) x

    go : (e : Option End) → x.ended ≡ e → HasEnded (t x)
    go None is =
        subst (λ (b : Bool). HasEnded (if b then x else turned at (Ends why) x))
        (sym (ap is_some is)) refl
    go (Some e) is =
        subst (λ (b : Bool). HasEnded (if b then x else turned at (Ends why) x))
        (sym (ap is_some is)) (subst (λ (o : Option End). IsTrue (is_some o)) (sym is) refl)
