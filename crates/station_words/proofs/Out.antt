-- Which seats are out.
use Rattle.std.proofs.Common.{◌≡◌, ◌≢◌, ◌⊎◌, inl, inr, ⊎_elim, ℕ, zero, suc, ◌+◌, ◌-◌, Bool, true, false}
use Rattle.std.proofs.Common.{List, [], ◌∷◌, ◌++◌, set, Some, Result, Ok, Err, refl, ap, sym, ◌∙◌, subst, arith}
use Rattle.std.specs.Prelude.{slice_get, slice_index_or, slice_set}
use Rattle.association_slots.specs.Steps.{seated, told}
use Rattle.association_slots.specs.Views.{AllIn, ControlAt, SeatAt, free, free_number}
use Rattle.association_slots.specs.declared.view.ControlView.{ControlView}
use Rattle.association_slots.specs.declared.view.SeatView.{SeatView}
use Rattle.packet_claims.specs.Claims.{Did}
use Rattle.packet_claims.specs.declared.answers.Claim.{Claim}
use Rattle.packet_claims.specs.declared.answers.NoClaim.{NoClaim}
use Rattle.packet_claims.specs.declared.answers.NoClaim.TheVariants.{NoKey, Exhausted}
use Rattle.station_words.specs.Seats.{HasJoined, IsOut, NoMoreOut, WasSeated, is_out}
use Rattle.station_words.specs.Telling.{OfSeats, of_seats}
use Rattle.station_words.specs.Ties.{HaveLooked}
use Rattle.station_words.proofs.Stations.{get-set}

pub set-true : (xs : List Bool) (k i : ℕ) → slice_index_or (slice_set xs k true) i false ≡ true
    → (i ≡ k) ⊎ (slice_index_or xs i false ≡ true)
set-true [] k i is = inr is
set-true (x ∷ xs) zero zero is = inl refl
set-true (x ∷ xs) zero (suc i) is = inr is
set-true (x ∷ xs) (suc k) zero is = inr is
set-true (x ∷ xs) (suc k) (suc i) is = elim (set-true xs k i is) [ inl same ↦ inl (ap suc same) | inr was ↦ inr was ]

pub set-false : (xs : List Bool) (k i : ℕ) → slice_index_or (slice_set xs k false) i false ≡ true
    → (i ≡ k → ⊥) × (slice_index_or xs i false ≡ true)
set-false [] k i is = absurd (cc is)
set-false (x ∷ xs) zero zero is = absurd (cc is)
set-false (x ∷ xs) zero (suc i) is = ((λ same. absurd (omega (arith, same))), is)
set-false (x ∷ xs) (suc k) zero is = ((λ same. absurd (omega (arith, same))), is)
set-false (x ∷ xs) (suc k) (suc i) is =
    let rest = set-false xs k i is in ((λ same. rest.0 (omega (arith, same))), rest.1)

-- a seat keeps its number as it claims
pub did-number : (v w : SeatView) (r : Result Claim NoClaim) → Did v w r → w.number ≡ v.number
did-number v w (Ok k) did = did.stays.number
did-number v w (Err (NoKey after)) did = did.stays.number
did-number v w (Err (Exhausted epoch)) did = did.stays.number

-- a seat of its own went out and came back
pub out-back : (c : ControlView) (v : SeatView) → v.number ≡ free_number c → (i : ℕ)
    → is_out (told (seated c) v) i ≡ true → is_out c i ≡ true
out-back c v number i is =
    let back = set-false (slice_set c.out (free c.out) true) (v.number - 1) i is in
    elim (set-true c.out (free c.out) i back.1) [
      | inl same ↦ absurd (back.0 (omega (arith, same, number)))
      | inr was ↦ was
    ]

pub out-same : (c d : ControlView) → of_seats d ≡ of_seats c → (i : ℕ) → is_out d i ≡ true
    → is_out c i ≡ true
out-same c d seats i is = ap (λ (o : OfSeats). slice_index_or o.out i false) (sym seats) ∙ is

-- ---- of all stations

pub out-none : (cs : List ControlAt) → NoMoreOut cs cs
out-none cs s i is = is

pub out-then : (a b c : List ControlAt) → NoMoreOut a b → NoMoreOut b c → NoMoreOut a c
out-then a b c first second s i is = first s i (second s i is)

pub out-set : (cs : List ControlAt) (p : ℕ) (c d : ControlAt) → slice_get cs p ≡ Some c
    → ((i : ℕ) → is_out d.view i ≡ true → is_out c.view i ≡ true) → NoMoreOut cs (set cs p d)
out-set cs p c d at one s i is = ⊎_elim
    (λ (both : (s ≡ p) × (d ≡ is.0)). (
      c,
      subst (λ (n : ℕ). slice_get cs n ≡ Some c) (sym both.0) at,
      one i (ap (λ (v : ControlAt). is_out v.view i) both.1 ∙ is.2),
    ))
    (λ (other : (s ≢ p) × (slice_get cs s ≡ Some is.0)). (is.0, other.1, is.2))
    (get-set cs p d s is.0 is.1)

pub out-looked : (old new : List ControlAt) → HaveLooked old new → NoMoreOut old new
out-looked old new looked s i is =
    let was = looked.each s is.0 is.1 in (was.0, was.1, out-same was.0.view is.0.view was.3 i is.2)

-- a station starts, with no seat out
pub out-started : (cs : List ControlAt) (c : ControlAt) → AllIn c.view → NoMoreOut cs (cs ++ c ∷ [])
out-started [] c all zero i is =
    let same : c ≡ is.0 = cc is.1 in
    absurd (let bad : false ≡ true = sym (all i) ∙ ap (λ (v : ControlAt). is_out v.view i) same ∙ is.2 in cc bad)
out-started [] c all (suc s) i is = absurd (let at = is.1 in cc at)
out-started (x ∷ cs) c all zero i is = is
out-started (x ∷ cs) c all (suc s) i is = out-started cs c all s i is

-- a seat went out: it is out now, and what else is was before
pub out-seated : (t : ℕ) (old new : List ControlAt) (seat : SeatAt) → WasSeated t old new seat
    → (s i : ℕ) → IsOut s i new → ((t ≡ s) × (seat.view.number ≡ i + 1)) ⊎ IsOut s i old
out-seated t old new seat was s i is =
    let now : slice_get (set old t (record was.control { view = seated was.control.view })) s ≡ Some is.0 =
    ap (λ (cs : List ControlAt). slice_get cs s) (sym was.new_is) ∙ is.1 in
    ⊎_elim
    (λ (both : (s ≡ t) × (record was.control { view = seated was.control.view } ≡ is.0)).
    mine both.0 (ap (λ (v : ControlAt). is_out v.view i) both.1 ∙ is.2))
    (λ (other : (s ≢ t) × (slice_get old s ≡ Some is.0)). inr (is.0, other.1, is.2))
    (get-set old t (record was.control { view = seated was.control.view }) s is.0 now)
  where
    mine : s ≡ t → is_out (seated was.control.view) i ≡ true
        → ((t ≡ s) × (seat.view.number ≡ i + 1)) ⊎ IsOut s i old
    mine at out = elim (set-true was.control.view.out (free was.control.view.out) i out) [
      | inl here ↦ inl (sym at, (let number = ap (λ (v : SeatAt). v.view.number) was.seat_is in omega (arith, number, here)))
      | inr before ↦ inr (was.control, subst (λ (n : ℕ). slice_get old n ≡ Some was.control) (sym at) was.there, before)
    ]

-- one came back: it is out no more, and what is was before
pub out-joined : (t : ℕ) (seat : SeatAt) (old new : List ControlAt) → HasJoined t seat old new
    → (s i : ℕ) → IsOut s i new → (((t ≡ s) × (seat.view.number ≡ i + 1)) → ⊥) × IsOut s i old
out-joined t seat old new has s i is =
    let now : slice_get (set old t (record has.control { view = told has.control.view seat.view })) s ≡ Some is.0 =
    ap (λ (cs : List ControlAt). slice_get cs s) (sym has.new_is) ∙ is.1 in
    ⊎_elim
    (λ (both : (s ≡ t) × (record has.control { view = told has.control.view seat.view } ≡ is.0)).
    mine both.0 (ap (λ (v : ControlAt). is_out v.view i) both.1 ∙ is.2))
    (λ (other : (s ≢ t) × (slice_get old s ≡ Some is.0)).
    ((λ (here : (t ≡ s) × (seat.view.number ≡ i + 1)). other.0 (sym here.0)), (is.0, other.1, is.2)))
    (get-set old t (record has.control { view = told has.control.view seat.view }) s is.0 now)
  where
    mine : s ≡ t → is_out (told has.control.view seat.view) i ≡ true
        → (((t ≡ s) × (seat.view.number ≡ i + 1)) → ⊥) × IsOut s i old
    mine at out =
        let back = set-false has.control.view.out (seat.view.number - 1) i out in (
          (λ (here : (t ≡ s) × (seat.view.number ≡ i + 1)). back.0 (let n = here.1 in omega (arith, n))),
          (has.control, subst (λ (n : ℕ). slice_get old n ≡ Some has.control) (sym at) has.there, back.1),
        )
