-- One fact more, and what it does to the seats.
use Rattle.std.proofs.Common.{◌≡◌, ◌≢◌, ◌∙◌, ◌⊎◌, ◌<◌, ◌+◌, ℕ, inl, inr, Bool, true, false, List, [], ◌∷◌, ◌++◌, length, Option, Some, None, refl, sym, ap, subst, arith, length-append}
use Rattle.std.specs.Prelude.{◌==◌, if◌then◌else◌, nat_lt, option_map, slice_get, set}
use Rattle.std.specs.List.{filter}
use Rattle.std.specs.Option.{option_or}
use Rattle.std.proofs.lemmas.Bool.{eqb-true, eq-eqb}
use Rattle.std.proofs.lemmas.List.Elements.{filter-append}
use Rattle.sak_exchange.proofs.Public.{by_test}
use Rattle.lan_core.specs.declared.fact.Fact.{Fact}
use Rattle.lan_core.specs.declared.fact.Fact.TheVariants as shows
use Rattle.transcript.specs.Naming.{most_named}
use Rattle.key_spans.specs.declared.clock.Clock.{Clock}
use Rattle.key_spans.specs.declared.seat.Seat.{Seat}
use Rattle.key_spans.specs.declared.seat.Seat.TheVariants.{Taken}
use Rattle.key_spans.specs.Spans.{clock, clock_after, start}
use Rattle.key_spans.specs.Leaving.{Stay, are_of_one, is_elsewhere, is_there, left_by, stay_from}
use Rattle.key_spans.specs.Seats.{AreSeatsOf, KeptSeats, or_empty, seat_at, seat_by, seat_of}
use Rattle.key_spans.specs.inside.Seating.{EachSeat, at_place, left_at, passed, seat_after, stays}
use Rattle.key_spans.proofs.Lanes.{unlike}
use Rattle.key_spans.proofs.OneMore.{clock-more}
use Rattle.key_spans.proofs.Rows.{past-none, same-place, set-here, set-others}

-- ---- one fact more at the end of facts

module _ (s : ℕ) (f : Fact) where
  abbrev stay_more : ℕ → Option Stay → Option Stay
  stay_more now o =
      if is_there s f then Some (record { last = now; since = [] })
      else option_map (λ (stay : Stay). record stay { since = stay.since ++ f ∷ [] }) o

  abbrev here : ℕ → List Fact → Bool → Option Stay
  here last since b = if b then Some (record { last = last; since = since }) else None

  stay-step : (now last : ℕ) (later : List Fact) (b : Bool) (o : Option Stay)
      → option_or (stay_more now o) (here last (later ++ f ∷ []) b) ≡ stay_more now (option_or o (here last later b))
  stay-step now last later b (Some stay) = by_test (is_there s f) (λ y. rw y refl) (λ y. rw y refl)
  stay-step now last later true None = by_test (is_there s f) (λ y. rw y refl) (λ y. rw y refl)
  stay-step now last later false None = by_test (is_there s f) (λ y. rw y refl) (λ y. rw y refl)

  stay-more : (at : Clock) (facts : List Fact)
      → stay_from s at (facts ++ f ∷ []) ≡ stay_more (clock_after (clock at facts) f).ticks (stay_from s at facts)
  stay-more at [] = by_test (is_there s f) (λ y. rw y refl) (λ y. rw y refl)
  stay-more at (x ∷ later) =
      let next = clock_after at x in
      ap (λ (o : Option Stay). option_or o (here next.ticks (later ++ f ∷ []) (is_there s x))) (stay-more next later)
      ∙ stay-step (clock_after (clock next later) f).ticks next.ticks later (is_there s x) (stay_from s next later)

  passes-more : (since : List Fact)
      → length (filter (is_elsewhere s) (since ++ f ∷ []))
      ≡ (if is_elsewhere s f then length (filter (is_elsewhere s) since) + 1 else length (filter (is_elsewhere s) since))
  passes-more since =
      ap length (filter-append (is_elsewhere s) since (f ∷ []))
      ∙ length-append (filter (is_elsewhere s) since) (filter (is_elsewhere s) (f ∷ []))
      ∙ by_test (is_elsewhere s f) (λ y. rw y refl) (λ y. rw y (omega arith))

  none-next : (n : ℕ) → (n + 1 == 0) ≡ false
  none-next n = go (n + 1 == 0) refl
    where
      go : (b : Bool) → (n + 1 == 0) ≡ b → b ≡ false
      go true is = absurd (grind (arith, is))
      go false is = refl

  one-next : (n : ℕ) → (n == 0) ≡ false → (n + 1 == 1) ≡ false
  one-next n some = go (n + 1 == 1) refl
    where
      go : (b : Bool) → (n + 1 == 1) ≡ b → b ≡ false
      go true is = absurd (grind (arith, is, some))
      go false is = refl

  seat-next : (at n : ℕ) → seat_by at (n + 1) ≡ passed (seat_by at n)
  seat-next at n =
      by_test (n == 0)
      (λ y. subst (λ (m : ℕ). seat_by at (m + 1) ≡ passed (seat_by at m)) (sym (eqb-true n 0 y)) refl)
      (λ y. by_test (n == 1)
      (λ z. subst (λ (m : ℕ). seat_by at (m + 1) ≡ passed (seat_by at m)) (sym (eqb-true n 1 z)) refl)
      (λ z. let a = none-next n in let b = one-next n y in rw (a, b, y, z) refl))

  seat-more : (now : ℕ) (o : Option Stay) → seat_of s (stay_more now o) ≡ seat_after s now f (seat_of s o)
  seat-more now None =
      by_test (is_there s f) (λ y. rw y refl)
      (λ y. by_test (is_elsewhere s f) (λ z. rw (y, z) refl) (λ z. rw (y, z) refl))
  seat-more now (Some stay) =
      by_test (is_there s f) (λ y. rw y refl)
      (λ y. by_test (is_elsewhere s f)
      (λ z. let more : length (filter (is_elsewhere s) (stay.since ++ f ∷ [])) ≡ length (filter (is_elsewhere s) stay.since) + 1 =
      passes-more stay.since ∙ rw z refl in
      rw (y, z) (ap (seat_by stay.last) more ∙ seat-next stay.last (length (filter (is_elsewhere s) stay.since))))
      (λ z. let same : length (filter (is_elsewhere s) (stay.since ++ f ∷ [])) ≡ length (filter (is_elsewhere s) stay.since) =
      passes-more stay.since ∙ rw z refl in
      rw (y, z) (ap (seat_by stay.last) same)))

pub seats-more : (facts : List Fact) (f : Fact) (old new : KeptSeats) (at : Clock) → AreSeatsOf facts old
    → at ≡ clock_after old.clock f → new.clock ≡ at
    → ((s : ℕ) → seat_at new.seats s ≡ seat_after s at.ticks f (seat_at old.seats s))
    → AreSeatsOf (facts ++ f ∷ []) new
seats-more facts f old new at are now clock_is seats = record {
  clock_is = clock_is ∙ behind;
  seats_are = λ s.
      seats s ∙ ap (seat_after s at.ticks f) (are.seats_are s)
      ∙ ap (λ (c : Clock). seat_after s c.ticks f (seat_of s (stay_from s start facts))) here
      ∙ sym (seat-more s f (clock_after (clock start facts) f).ticks (stay_from s start facts))
      ∙ ap (seat_of s) (sym (stay-more s f start facts));
}
  where
    here : at ≡ clock_after (clock start facts) f
    here = now ∙ ap (λ (c : Clock). clock_after c f) are.clock_is

    behind : at ≡ clock start (facts ++ f ∷ [])
    behind = here ∙ sym (clock-more start facts f)

pub seats-taken : (facts : List Fact) (f : Fact) (old mid new : KeptSeats) (first at : Clock) (xs : List Seat)
    → AreSeatsOf facts old → EachSeat stays old mid → record { clock = first; seats = xs } ≡ mid
    → at ≡ clock_after first f → new.clock ≡ at
    → ((s : ℕ) → seat_at new.seats s ≡ seat_after s at.ticks f (seat_at mid.seats s))
    → AreSeatsOf (facts ++ f ∷ []) new
seats-taken facts f old mid new first at xs are same view now clock_is seats =
    seats-more facts f old new at are
    (now ∙ ap (λ (c : Clock). clock_after c f) (ap (λ (k : KeptSeats). k.clock) view ∙ same.clock_is)) clock_is
    (λ s. seats s ∙ ap (seat_after s at.ticks f) (same.seats_are s))

-- a seat passed so often tells when its station left
abbrev Tells : ℕ → ℕ → Type 0
Tells last n = left_at (seat_by last n) ≡ (if nat_lt 1 n then Some last else None)

often : (n : ℕ) → (n == 0) ≡ false → (n == 1) ≡ false → nat_lt 1 n ≡ true
often n some more = go (nat_lt 1 n) refl
  where
    go : (b : Bool) → nat_lt 1 n ≡ b → b ≡ true
    go true is = refl
    go false is = absurd (grind (arith, is, some, more))

tells : (last n : ℕ) → Tells last n
tells last n =
    by_test (n == 0) (λ y. subst (Tells last) (sym (eqb-true n 0 y)) refl)
    (λ y. by_test (n == 1) (λ z. subst (Tells last) (sym (eqb-true n 1 z)) refl)
    (λ z. let x = often n y z in rw (y, z, x) refl))

pub left-seat : (s : ℕ) (o : Option Stay) → left_at (seat_of s o) ≡ left_by s o
left-seat s None = refl
left-seat s (Some stay) = tells stay.last (length (filter (is_elsewhere s) stay.since))

-- ---- what a fact does

module _ (s t : ℕ) where
  not-behind : (t == s) ≡ true → (t + most_named == s) ≡ false
  not-behind same = go (t + most_named == s) refl
    where
      go : (b : Bool) → (t + most_named == s) ≡ b → b ≡ false
      go true is = absurd (grind (arith, is, same))
      go false is = refl

  not-before : (t == s) ≡ true → (s + most_named == t) ≡ false
  not-before same = go (s + most_named == t) refl
    where
      go : (b : Bool) → (s + most_named == t) ≡ b → b ≡ false
      go true is = absurd (grind (arith, is, same))
      go false is = refl

  not-both : (t + most_named == s) ≡ true → (s + most_named == t) ≡ false
  not-both behind = go (s + most_named == t) refl
    where
      go : (b : Bool) → (s + most_named == t) ≡ b → b ≡ false
      go true is = absurd (grind (arith, is, behind))
      go false is = refl

  abbrev before : Seat → Seat
  before seat = if s + most_named == t then passed seat else seat

  pub seat-ticked : (at now next : ℕ) (seat : Seat)
      → before (at_place (t + most_named) passed s (at_place t (λ seat. Taken now) s seat))
      ≡ seat_after s now (shows.Ticked t at next) seat
  seat-ticked at now next seat =
      by_test (t == s)
      (λ y. let behind = not-behind y in let before = not-before y in rw (y, behind, before) refl)
      (λ y. by_test (t + most_named == s)
      (λ z. let before = not-both z in rw (y, z, before) refl)
      (λ z. by_test (s + most_named == t) (λ x. rw (y, z, x) refl) (λ x. rw (y, z, x) refl)))

-- ---- one seat

pub passed-here : (old : KeptSeats) (first : Clock) (xs : List Seat) (t : ℕ) (x y : Seat)
    → record { clock = first; seats = xs } ≡ old → slice_get xs t ≡ Some x → y ≡ passed x
    → EachSeat (at_place t passed) old (record { clock = first; seats = set xs t y })
passed-here old first xs t x y view found same =
    subst (λ (k : KeptSeats). EachSeat (at_place t passed) k (record { clock = first; seats = set xs t y })) view
    (record { clock_is = refl; seats_are = λ s. go s (same-place s t) })
  where
    own : seat_at (set xs t y) t ≡ (if t == t then passed (seat_at xs t) else seat_at xs t)
    own =
        ap or_empty (set-here xs t x y found) ∙ same ∙ sym (ap (λ (o : Option Seat). passed (or_empty o)) found)
        ∙ sym (ap (λ (b : Bool). if b then passed (seat_at xs t) else seat_at xs t) (eq-eqb t t refl))

    other : (s : ℕ) → (s ≡ t → ⊥) → seat_at (set xs t y) s ≡ at_place t passed s (seat_at xs s)
    other s apart =
        ap or_empty (set-others xs t s y apart)
        ∙ sym (ap (λ (b : Bool). if b then passed (seat_at xs s) else seat_at xs s) (unlike t s apart))

    go : (s : ℕ) → (s ≡ t) ⊎ (s ≢ t) → seat_at (set xs t y) s ≡ at_place t passed s (seat_at xs s)
    go s (inl is) = subst (λ (p : ℕ). seat_at (set xs t y) p ≡ at_place t passed p (seat_at xs p)) (sym is) own
    go s (inr apart) = other s apart

pub passed-nowhere : (old : KeptSeats) (first : Clock) (xs : List Seat) (t : ℕ) → record { clock = first; seats = xs } ≡ old
    → (t < length xs → ⊥) → EachSeat (at_place t passed) old (record { clock = first; seats = xs })
passed-nowhere old first xs t view nobody =
    subst (λ (k : KeptSeats). EachSeat (at_place t passed) old k) (sym view)
    (record { clock_is = refl; seats_are = λ s. go s (same-place s t) })
  where
    none : t < length old.seats → ⊥
    none less = nobody (subst (λ (k : KeptSeats). t < length k.seats) (sym view) less)

    empty : passed (seat_at old.seats t) ≡ seat_at old.seats t
    empty = subst (λ (o : Option Seat). passed (or_empty o) ≡ or_empty o) (sym (past-none old.seats t none)) refl

    own : (b : Bool) → seat_at old.seats t ≡ (if b then passed (seat_at old.seats t) else seat_at old.seats t)
    own true = sym empty
    own false = refl

    go : (s : ℕ) → (s ≡ t) ⊎ (s ≢ t) → seat_at old.seats s ≡ at_place t passed s (seat_at old.seats s)
    go s (inl is) = subst (λ (p : ℕ). seat_at old.seats p ≡ at_place t passed p (seat_at old.seats p)) (sym is) (own (t == t))
    go s (inr apart) = sym (ap (λ (b : Bool). if b then passed (seat_at old.seats s) else seat_at old.seats s) (unlike t s apart))
