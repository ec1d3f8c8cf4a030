-- One fact more, and what it does to the rows of claims and of refused sends.
use Rattle.std.proofs.Common.{◌≡◌, ◌∙◌, ◌≤◌, ℕ, inl, inr, Bool, true, false, List, [], ◌∷◌, ◌++◌, Some, None, All, sym, ap, subst, arith, append_assoc}
use Rattle.std.specs.Prelude.{◌≢◌, ◌⊎◌, ◌==◌, ◌&&◌, if◌then◌else◌, set, slice_get, OnOk, Option, Result, Ok, Err}
use Rattle.std.specs.declared.alloc.AllocError.{AllocError}
use Rattle.std.proofs.lemmas.List.{append-nil}
use Rattle.std.proofs.lemmas.List.Elements.{All-nil, All-cons, All-append}
use Rattle.lan_base.specs.AssociationNumbers.{same_an}
use Rattle.lan_base.specs.declared.association_number.AssociationNumber.{AssociationNumber}
use Rattle.lan_base.specs.declared.association_number.AssociationNumber.TheVariants.{An0, An1, An2, An3}
use Rattle.sak_exchange.proofs.Public.{by_test}
use Rattle.lan_core.specs.declared.fact.Fact.{Fact}
use Rattle.lan_core.specs.declared.fact.Fact.TheVariants as shows
use Rattle.lan_core.specs.declared.fact.Lack.{Lack}
use Rattle.tick_columns.specs.Columns.{IsThinned, Columns}
use Rattle.key_spans.specs.declared.claim.Attempt.{Attempt}
use Rattle.key_spans.specs.declared.clock.Clock.{Clock}
use Rattle.key_spans.specs.Spans.{clock, clock_after, start}
use Rattle.key_spans.specs.Claims.{claimed, refused, told}
use Rattle.key_spans.specs.Sends.{AreSendsOf, KeptSends, Track, asked_at, or_bare, track_at, track_in}
use Rattle.key_spans.specs.inside.Sending.{AreSendsAfter, IsAddedAt, IsClaimed, IsRowBehind}
use Rattle.key_spans.proofs.OneMore.{clock-more}
use Rattle.key_spans.proofs.Apart.{most, rises}
use Rattle.key_spans.proofs.Lanes.{same-number, unlike}
use Rattle.key_spans.proofs.Rows.{same-place, set-here, set-others}
use Rattle.key_spans.proofs.Standing.{clock-rises}

module _ (tells : ℕ → Fact → List Attempt) where
  told-more : (at : Clock) (facts : List Fact) (f : Fact)
      → told tells at (facts ++ f ∷ []) ≡ told tells at facts ++ tells (clock at facts).ticks f
  told-more at [] f = append-nil (tells at.ticks f)
  told-more at (x ∷ later) f =
      ap (λ (xs : List Attempt). tells at.ticks x ++ xs) (told-more (clock_after at x) later f)
      ∙ sym (append_assoc (tells at.ticks x) (told tells (clock_after at x) later)
      (tells (clock (clock_after at x) later).ticks f))

  module _ (in_time : (at next : ℕ) (f : Fact) → at ≤ next → All (λ x. x.at ≤ next) (tells at f)) where
    told-times : (at : Clock) (facts : List Fact) → at.ticks ≤ most
        → All (λ x. x.at ≤ (clock at facts).ticks) (told tells at facts)
    told-times at [] few = All-nil (λ (x : Attempt). x.at ≤ at.ticks)
    told-times at (f ∷ later) few =
        let next = clock_after at f in
        let one = rises at f few in
        let first = one.0 in
        let rest = clock-rises next later one.1 in
        All-append (λ (x : Attempt). x.at ≤ (clock next later).ticks) (tells at.ticks f) (told tells next later)
        (in_time at.ticks (clock next later).ticks f (omega (arith, first, rest))) (told-times next later one.1)

    row-more : (facts : List Fact) (f : Fact) (old new : Columns Attempt) → IsThinned asked_at (told tells start facts) old
        → IsRowBehind (clock start facts).ticks (tells (clock start facts).ticks f) old new
        → IsThinned asked_at (told tells start (facts ++ f ∷ [])) new
    row-more facts f old new is behind =
        subst (λ (xs : List Attempt). IsThinned asked_at xs new) (sym (told-more start facts f))
        (behind (told tells start facts) (told-times start facts (omega arith)) is)

-- ---- what one fact tells is told at its time

claimed-in : (s : ℕ) (an : AssociationNumber) (at next : ℕ) (f : Fact) → at ≤ next
    → All (λ x. x.at ≤ next) (claimed s an at f)
claimed-in s an at next (shows.Claimed t a epoch pn) less = go ((t == s) && same_an a an)
  where
    claim : Attempt
    claim = record { at = at; got = Some (record { epoch = epoch; pn = pn }) }

    go : (b : Bool) → All (λ x. x.at ≤ next) (if b then claim ∷ [] else [])
    go true = All-cons (λ (x : Attempt). x.at ≤ next) claim [] less (All-nil (λ (x : Attempt). x.at ≤ next))
    go false = All-nil (λ (x : Attempt). x.at ≤ next)
claimed-in s an at next _ less = All-nil (λ (x : Attempt). x.at ≤ next)

refused-in : (s at next : ℕ) (f : Fact) → at ≤ next → All (λ x. x.at ≤ next) (refused s at f)
refused-in s at next (shows.Unclaimed t why) less = go (t == s)
  where
    refusal : Attempt
    refusal = record { at = at; got = None }

    go : (b : Bool) → All (λ x. x.at ≤ next) (if b then refusal ∷ [] else [])
    go true = All-cons (λ (x : Attempt). x.at ≤ next) refusal [] less (All-nil (λ (x : Attempt). x.at ≤ next))
    go false = All-nil (λ (x : Attempt). x.at ≤ next)
refused-in s at next _ less = All-nil (λ (x : Attempt). x.at ≤ next)

pub sends-more : (facts : List Fact) (f : Fact) (old mid new : KeptSends) → AreSendsOf facts old
    → AreSendsAfter old.clock.ticks f old mid → new ≡ record mid { clock = clock_after mid.clock f }
    → AreSendsOf (facts ++ f ∷ []) new
sends-more facts f old mid new are after same =
    subst (AreSendsOf (facts ++ f ∷ [])) (sym same) (record {
      clock_is = ap (λ (c : Clock). clock_after c f) (after.clock_is ∙ are.clock_is) ∙ sym (clock-more start facts f);
      claims_are = λ s an.
          row-more (claimed s an) (claimed-in s an) facts f (track_at (track_in old an) s)
          (track_at (track_in mid an) s) (are.claims_are s an)
          (subst (λ (c : Clock). IsRowBehind c.ticks (claimed s an c.ticks f) (track_at (track_in old an) s)
          (track_at (track_in mid an) s)) are.clock_is (after.claims_are s an));
      refusals_are = λ s.
          row-more (refused s) (refused-in s) facts f (track_at old.refused s) (track_at mid.refused s)
          (are.refusals_are s)
          (subst (λ (c : Clock). IsRowBehind c.ticks (refused s c.ticks f) (track_at old.refused s)
          (track_at mid.refused s)) are.clock_is (after.refusals_are s));
    })

-- ---- what one fact does

-- nothing comes to a row
pub bare : (at : ℕ) (old new : Columns Attempt) → new ≡ old → IsRowBehind at [] old new
bare at old new same items by is =
    subst (λ (k : Columns Attempt). IsThinned asked_at (items ++ []) k) (sym same)
    (subst (λ (xs : List Attempt). IsThinned asked_at xs old) (sym (append-nil items)) is)

module _ (t : ℕ) (a : AssociationNumber) (at epoch pn : ℕ) (old new : KeptSends) where
  abbrev claim : Attempt
  claim = record { at = at; got = Some (record { epoch = epoch; pn = pn }) }

  abbrev To : Bool → Track → Track → Type 0
  To true old new = IsAddedAt t claim old new
  To false old new = new ≡ old

  pick : (a an : AssociationNumber) → IsClaimed a t claim old new → To (same_an a an) (track_in old an) (track_in new an)
  pick An0 An0 is = is.0
  pick An0 An1 is = ap (λ (k : KeptSends). k.an1) is.1
  pick An0 An2 is = ap (λ (k : KeptSends). k.an2) is.1
  pick An0 An3 is = ap (λ (k : KeptSends). k.an3) is.1
  pick An1 An0 is = ap (λ (k : KeptSends). k.an0) is.1
  pick An1 An1 is = is.0
  pick An1 An2 is = ap (λ (k : KeptSends). k.an2) is.1
  pick An1 An3 is = ap (λ (k : KeptSends). k.an3) is.1
  pick An2 An0 is = ap (λ (k : KeptSends). k.an0) is.1
  pick An2 An1 is = ap (λ (k : KeptSends). k.an1) is.1
  pick An2 An2 is = is.0
  pick An2 An3 is = ap (λ (k : KeptSends). k.an3) is.1
  pick An3 An0 is = ap (λ (k : KeptSends). k.an0) is.1
  pick An3 An1 is = ap (λ (k : KeptSends). k.an1) is.1
  pick An3 An2 is = ap (λ (k : KeptSends). k.an2) is.1
  pick An3 An3 is = is.0

  refused-same : (a : AssociationNumber) → IsClaimed a t claim old new → (new.clock ≡ old.clock) × (new.refused ≡ old.refused)
  refused-same An0 is = (ap (λ (k : KeptSends). k.clock) is.1, ap (λ (k : KeptSends). k.refused) is.1)
  refused-same An1 is = (ap (λ (k : KeptSends). k.clock) is.1, ap (λ (k : KeptSends). k.refused) is.1)
  refused-same An2 is = (ap (λ (k : KeptSends). k.clock) is.1, ap (λ (k : KeptSends). k.refused) is.1)
  refused-same An3 is = (ap (λ (k : KeptSends). k.clock) is.1, ap (λ (k : KeptSends). k.refused) is.1)

  row-claimed : (s : ℕ) (b : Bool) (old new : Track) → To b old new
      → IsRowBehind at (if (t == s) && b then claim ∷ [] else []) (track_at old s) (track_at new s)
  row-claimed s true old new is =
      by_test (t == s)
      (λ y. subst (λ (b : Bool). IsRowBehind at (if b && true then claim ∷ [] else []) (track_at old s) (track_at new s)) (sym y)
      (subst (λ (b : Bool). IsRowBehind at (if b then claim ∷ [] else []) (track_at old s) (track_at new s)) y (is.rows_are s)))
      (λ y. subst (λ (b : Bool). IsRowBehind at (if b && true then claim ∷ [] else []) (track_at old s) (track_at new s)) (sym y)
      (subst (λ (b : Bool). IsRowBehind at (if b then claim ∷ [] else []) (track_at old s) (track_at new s)) y (is.rows_are s)))
  row-claimed s false old new same =
      by_test (t == s)
      (λ y. rw y (bare at (track_at old s) (track_at new s) (ap (λ (k : Track). track_at k s) same)))
      (λ y. rw y (bare at (track_at old s) (track_at new s) (ap (λ (k : Track). track_at k s) same)))

  pub claimed-after : IsClaimed a t claim old new → AreSendsAfter at (shows.Claimed t a epoch pn) old new
  claimed-after is = record {
    clock_is = (refused-same a is).0;
    claims_are = λ s an. row-claimed s (same_an a an) (track_in old an) (track_in new an) (pick a an is);
    refusals_are = λ s.
        bare at (track_at old.refused s) (track_at new.refused s)
        (ap (λ (k : Track). track_at k s) (refused-same a is).1);
  }

pub refused-after : (t at : ℕ) (why : Lack) (old new : KeptSends)
    → IsAddedAt t (record { at = at; got = None }) old.refused new.refused
    → new ≡ record old { refused = new.refused } → AreSendsAfter at (shows.Unclaimed t why) old new
refused-after t at why old new is same = record {
  clock_is = ap (λ (k : KeptSends). k.clock) same;
  claims_are = λ s an.
      bare at (track_at (track_in old an) s) (track_at (track_in new an) s)
      (ap (λ (k : Track). track_at k s) (tracks an));
  refusals_are = λ s. is.rows_are s;
}
  where
    tracks : (an : AssociationNumber) → track_in new an ≡ track_in old an
    tracks An0 = ap (λ (k : KeptSends). k.an0) same
    tracks An1 = ap (λ (k : KeptSends). k.an1) same
    tracks An2 = ap (λ (k : KeptSends). k.an2) same
    tracks An3 = ap (λ (k : KeptSends). k.an3) same

-- ---- an attempt comes to a row

-- the rows of a track as they stand, of which one is renewed
pub added-here : (t : ℕ) (attempt : Attempt) (xs : Track) (given new : Columns Attempt) (result : Result (Unit {0}) AllocError)
    → slice_get xs t ≡ Some given
    → ((items : List Attempt) → IsThinned asked_at items given → All (λ x. x.at ≤ attempt.at) items
    → OnOk result (IsThinned asked_at (items ++ attempt ∷ []) new))
    → OnOk result (IsAddedAt t attempt xs (set xs t new))
added-here t attempt xs given new (Err e) found added = tt
added-here t attempt xs given new (Ok u) found added = record { rows_are = λ s. go s (same-place s t) }
  where
    Behind : ℕ → Type 0
    Behind s = IsRowBehind attempt.at (if t == s then attempt ∷ [] else []) (track_at xs s) (track_at (set xs t new) s)

    row : IsRowBehind attempt.at (attempt ∷ []) given new
    row items by is = added items is by

    here : Behind t
    here =
        subst (λ (b : Bool). IsRowBehind attempt.at (if b then attempt ∷ [] else []) (track_at xs t) (track_at (set xs t new) t))
        (sym (same-number t))
        (subst (λ (o : Option (Columns Attempt)). IsRowBehind attempt.at (attempt ∷ []) (or_bare o) (track_at (set xs t new) t)) (sym found)
        (subst (λ (o : Option (Columns Attempt)). IsRowBehind attempt.at (attempt ∷ []) given (or_bare o))
        (sym (set-here xs t given new found)) row))

    go : (s : ℕ) → (s ≡ t) ⊎ (s ≢ t) → Behind s
    go s (inl is) = subst Behind (sym is) here
    go s (inr apart) =
        subst (λ (b : Bool). IsRowBehind attempt.at (if b then attempt ∷ [] else []) (track_at xs s) (track_at (set xs t new) s))
        (sym (unlike t s apart))
        (bare attempt.at (track_at xs s) (track_at (set xs t new) s)
        (ap (λ (o : Option (Columns Attempt)). or_bare o) (set-others xs t s new apart)))

-- rows that show the same were there before it
pub added-behind : (t : ℕ) (attempt : Attempt) (old mid new : Track) → ((s : ℕ) → track_at mid s ≡ track_at old s)
    → IsAddedAt t attempt mid new → IsAddedAt t attempt old new
added-behind t attempt old mid new same is = record {
  rows_are = λ s.
      subst (λ (k : Columns Attempt). IsRowBehind attempt.at (if t == s then attempt ∷ [] else []) k (track_at new s))
      (same s) (is.rows_are s);
}
