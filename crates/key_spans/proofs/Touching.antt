-- What the calls on one row give.
use Rattle.std.proofs.Common.{◌≡◌, ◌∙◌, ◌≤◌, ℕ, List, [], ◌∷◌, ◌++◌, Option, Some, None, All, refl, sym, ap, subst}
use Rattle.std.specs.Prelude.{map}
use Rattle.std.proofs.lemmas.List.Elements.{All-cons, All-head, All-tail}
use Rattle.lan_base.specs.declared.association_number.AssociationNumber.TheVariants.{An0}
use Rattle.tick_columns.specs.Columns.{IsLast, IsThinned, Columns}
use Rattle.key_spans.specs.declared.span.Span.{Span}
use Rattle.key_spans.specs.declared.span.Turn.{Turn}
use Rattle.key_spans.specs.declared.span.Turn.TheVariants.{Ends}
use Rattle.key_spans.specs.declared.span.Why.TheVariants.{Replaced}
use Rattle.key_spans.specs.Spans.{touched}
use Rattle.key_spans.specs.Standing.{installed_at}
use Rattle.key_spans.specs.inside.Taking.{AllEnded, AreBy, GivesBack, IsGrownRow, IsKeptRow, IsTouched}
use Rattle.key_spans.proofs.OneMore.{stays}
use Rattle.key_spans.proofs.Apart.{installed-touched}

same-installed : (at : ℕ) (t : Option Turn) (x : Span) → (touched at t x).installed ≡ x.installed
same-installed at t x = installed-touched 0 An0 at t x

last-touched : (at : ℕ) (t : Option Turn) (front : List Span) (x : Span) → AllEnded front
    → map (touched at t) (front ++ x ∷ []) ≡ front ++ touched at t x ∷ []
last-touched at t [] x ended = refl
last-touched at t (y ∷ front) x ended =
    ap (λ (z : Span). z ∷ map (touched at t) (front ++ x ∷ [])) (stays at t y ended.0)
    ∙ ap (λ (zs : List Span). y ∷ zs) (last-touched at t front x ended.1)

touched-whole : (at : ℕ) (t : Option Turn) (all front : List Span) (x : Span) → AreBy at all
    → all ≡ front ++ x ∷ [] → map (touched at t) all ≡ front ++ touched at t x ∷ []
touched-whole at t all front x by is =
    ap (λ (xs : List Span). map (touched at t) xs) is ∙ last-touched at t front x (by.ended front x is)

times-touched : (at : ℕ) (t : Option Turn) (all : List Span) → All (λ x. x.installed ≤ at) all
    → All (λ x. x.installed ≤ at) (map (touched at t) all)
times-touched at t [] less = less
times-touched at t (x ∷ all) less =
    All-cons (λ (x : Span). x.installed ≤ at) (touched at t x) (map (touched at t) all)
    (subst (λ n. n ≤ at) (sym (same-installed at t x)) (All-head (λ (x : Span). x.installed ≤ at) x all less))
    (times-touched at t all (All-tail (λ (x : Span). x.installed ≤ at) x all less))

module _ (old new : Columns Span) where
  abbrev pub Lasts : Option Span → Type 0
  Lasts last = (items : List Span) → IsThinned installed_at items old → IsLast items last

  abbrev pub Renews : Span → Type 0
  Renews item = (front : List Span) (x : Span) → IsThinned installed_at (front ++ x ∷ []) old
      → item.installed ≡ x.installed → IsThinned installed_at (front ++ item ∷ []) new

  pub touched-some : (at : ℕ) (t : Option Turn) (last : Option Span) (span item : Span) → last ≡ Some span
      → Lasts last → item ≡ touched at t span → Renews item → IsTouched at t old new
  touched-some at t last span item there lasts same renews all by is =
      let parts : IsLast all (Some span) = subst (λ (o : Option Span). IsLast all o) there (lasts all is) in
      subst (λ (xs : List Span). IsThinned installed_at xs new)
      (ap (λ (y : Span). parts.0 ++ y ∷ []) same ∙ sym (touched-whole at t all parts.0 span by parts.1))
      (renews parts.0 span (subst (λ (xs : List Span). IsThinned installed_at xs old) parts.1 is)
      (ap (λ (y : Span). y.installed) same ∙ same-installed at t span))

  pub touched-none : (at : ℕ) (t : Option Turn) (last : Option Span) → last ≡ None → Lasts last → new ≡ old
      → IsTouched at t old new
  touched-none at t last there lasts same all by is =
      let none : all ≡ [] = subst (λ (o : Option Span). IsLast all o) there (lasts all is) in
      subst (λ (k : Columns Span). IsThinned installed_at (map (touched at t) all) k) (sym same)
      (subst (λ (xs : List Span). IsThinned installed_at (map (touched at t) xs) old) (sym none)
      (subst (λ (xs : List Span). IsThinned installed_at xs old) none is))

module _ (span : Span) (old mid : Columns Span)
    (touch : IsTouched span.installed (Some (Ends Replaced)) old mid) where
  pub grown : (new : Columns Span)
      → ((items : List Span) → IsThinned installed_at items mid → All (λ x. x.installed ≤ span.installed) items
      → IsThinned installed_at (items ++ span ∷ []) new) → IsGrownRow span old new
  grown new add all by is =
      add (map (touched span.installed (Some (Ends Replaced))) all) (touch all by is)
      (times-touched span.installed (Some (Ends Replaced)) all by.times)

  pub given-back : (after new : Columns Span) (before : Option Span) → Lasts old old before
      → ((items : List Span) → IsThinned installed_at items mid → IsThinned installed_at items after)
      → GivesBack before after new → IsKeptRow span.installed old new
  given-back after new before lasts kept back all by is = go before (lasts all is) back
    where
      held : IsThinned installed_at (map (touched span.installed (Some (Ends Replaced))) all) after
      held = kept (map (touched span.installed (Some (Ends Replaced))) all) (touch all by is)

      go : (before : Option Span) → IsLast all before → GivesBack before after new → IsThinned installed_at all new
      go None none same =
          subst (λ (k : Columns Span). IsThinned installed_at all k) (sym same)
          (subst (λ (xs : List Span). IsThinned installed_at xs after) (sym none)
          (subst (λ (xs : List Span). IsThinned installed_at
          (map (touched span.installed (Some (Ends Replaced))) xs) after) none held))
      go (Some x) parts back =
          subst (λ (xs : List Span). IsThinned installed_at xs new) (sym parts.1)
          (back parts.0 (touched span.installed (Some (Ends Replaced)) x)
          (subst (λ (xs : List Span). IsThinned installed_at xs after)
          (touched-whole span.installed (Some (Ends Replaced)) all parts.0 x by parts.1) held)
          (sym (same-installed span.installed (Some (Ends Replaced)) x)))
