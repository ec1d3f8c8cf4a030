-- The sets of a body are gathered, each in the place of its type.
use Rattle.std.specs.Prelude.{count_by, is_some, not, ◌&&◌}
use Rattle.std.specs.List.{AllByRecursion, find}
use Rattle.std.proofs.Common.{◌≡◌, ◌≢◌, ℕ, zero, suc, ◌+◌, ◌*◌, ◌/◌, ◌%◌, ◌≤◌, ◌⊎◌, inl, inr, Bool, true, false, cond, eqb, List, [], ◌∷◌, ◌++◌, length, Option, Some, None, Result, Ok, Err, refl, sym, ap, subst, ◌∙◌, arith, length-append, append_assoc, eq-eqb}
use Rattle.std.proofs.lemmas.Bool.{eqb-true, eqb-false, ne_eqb}
use Rattle.std.proofs.lemmas.List.Sums.{sum_by-cons}
use Rattle.mkpdu_codec.specs.declared.refusal.Refusal.{Refusal}
use Rattle.mkpdu_codec.specs.Frames.{Set, IsSet, AreSets, IsIndicator, the, has_highs}
use Rattle.mkpdu_codec.specs.Refusals.{is_indicator, is_length_of, is_single, front_kind}
use Rattle.mkpdu_codec.specs.Reading.{◌>>=◌, Gathered, nothing, noted, placed, shaped_at, gathered}
use Rattle.mkpdu_codec.proofs.SetOctets.{set_at-is}
use Rattle.mkpdu_codec.proofs.Places.{slot, put, placed-is, slot-put, slot-noted, single_range}
use Rattle.mkpdu_codec.proofs.Loops.{Goes, gathered_step, gathered_stop, gathered_stop_at}
use Rattle.mkpdu_codec.proofs.Again.{first}

-- a set has a length of its type
abbrev pub IsShaped : Set → Type 0
IsShaped s = is_length_of s.kind (length s.body) ≡ true

-- ---- the places

abbrev pub placed_all : Gathered → List Set → Result Gathered Refusal
placed_all g [] = Ok g
placed_all g (s ∷ ss) = placed g s >>= λ more. placed_all more ss

abbrev pub count : ℕ → List Set → ℕ
count k ss = count_by (λ s. eqb s.kind k) ss

abbrev pub taken : Option Set → ℕ
taken None = 0
taken (Some s) = 1

abbrev pub join : Option Set → Option Set → Option Set
join None o = o
join (Some s) o = Some s

pub count-cons : (k : ℕ) (s : Set) (ss : List Set) → count k (s ∷ ss) ≡ cond (eqb s.kind k) 1 0 + count k ss
count-cons k s ss = sum_by-cons (λ (t : Set). cond (eqb t.kind k) 1 0) s ss

pub count-here : (k : ℕ) (s : Set) (ss : List Set) → eqb s.kind k ≡ true → count k (s ∷ ss) ≡ 1 + count k ss
count-here k s ss e = count-cons k s ss ∙ rw e refl

pub count-other : (k : ℕ) (s : Set) (ss : List Set) → eqb s.kind k ≡ false → count k (s ∷ ss) ≡ count k ss
count-other k s ss e = count-cons k s ss ∙ rw e (omega arith)

free : (o : Option Set) → taken o ≤ 0 → o ≡ None
free None le = refl
free (Some s) le = absurd (omega arith)

pub join-none : (o : Option Set) → o ≡ join o None
join-none None = refl
join-none (Some s) = refl

-- no type comes twice
abbrev pub OnceFrom : Gathered → List Set → Type 0
OnceFrom g ss = (k : ℕ) → is_single k ≡ true → taken (slot k g) + count k ss ≤ 1

-- the places are those of the sets, and the high halves those of the first set that has them
abbrev pub HoldsAll : Gathered → List Set → Gathered → Type 0
HoldsAll g ss h =
    ((k : ℕ) → is_single k ≡ true → slot k h ≡ join (slot k g) (first k ss))
    × (h.highs ≡ join g.highs (find has_highs ss))

-- a set of a type that has a place has no high halves
without_highs : (s : Set) → is_single s.kind ≡ true → has_highs s ≡ false
without_highs s single =
    let in_range = single_range s.kind single in
    let other : eqb s.kind 8 ≡ false = ne_eqb s.kind 8 (λ e. omega (arith, e, in_range.1)) in
    rw other refl

-- the high halves that are kept are those that were, or else those of the set
noted_highs : (s : Set) (g : Gathered) (o : Option Set) → join (noted s g).highs o ≡ join g.highs (cond (has_highs s) (Some s) o)
noted_highs s g o =
    elim (has_highs s) as (λ t. join (cond (t && not (is_some g.highs)) (record g { highs = Some s }) g).highs o ≡ join g.highs (cond t (Some s) o)) [
      | true ↦ go g.highs refl
      | false ↦ refl
    ] where
      go : (x : Option Set) → g.highs ≡ x → join (cond (true && not (is_some g.highs)) (record g { highs = Some s }) g).highs o ≡ join g.highs (Some s)
      go None e = rw e refl
      go (Some t) e = rw e refl

pub not_kind : (k : ℕ) (s : Set) → is_single s.kind ≡ false → is_single k ≡ true → eqb s.kind k ≡ false
not_kind k s other single = ne_eqb s.kind k (λ same. absurd (let clash : true ≡ false = sym single ∙ ap is_single (sym same) ∙ other in cc))

same-eqb : (k : ℕ) → eqb k k ≡ true
same-eqb k = eq-eqb k k refl

free_slot : (g : Gathered) (s : Set) (ss : List Set) → OnceFrom g (s ∷ ss) → is_single s.kind ≡ true → slot s.kind g ≡ None
free_slot g s ss once single =
    let n : taken (slot s.kind g) + count s.kind (s ∷ ss) ≤ 1 = once s.kind single in
    free (slot s.kind g) (omega (arith, n, count-here s.kind s ss (same-eqb s.kind)))

-- the places after one set of a type that has one
put_once : (g : Gathered) (s : Set) (ss : List Set) → OnceFrom g (s ∷ ss) → OnceFrom (put s g) ss
put_once g s ss once k single =
    let n : taken (slot k g) + count k (s ∷ ss) ≤ 1 = once k single in
    elim (eqb s.kind k) as (λ t. eqb s.kind k ≡ t → taken (slot k (put s g)) + count k ss ≤ 1) [
      | true ↦ λ e. rw (slot-put k s g single, e) (omega (arith, n, count-here k s ss e))
      | false ↦ λ e. rw (slot-put k s g single, e) (omega (arith, n, count-other k s ss e))
    ] refl

pub put_holds : (g h : Gathered) (s : Set) (ss : List Set) → is_single s.kind ≡ true → slot s.kind g ≡ None → HoldsAll (put s g) ss h → HoldsAll g (s ∷ ss) h
put_holds g h s ss one none holds = (places, holds.1 ∙ (let no = without_highs s one in rw no refl)) where
  places : (k : ℕ) → is_single k ≡ true → slot k h ≡ join (slot k g) (first k (s ∷ ss))
  places k single =
      holds.0 k single ∙ ap (λ (o : Option Set). join o (first k ss)) (slot-put k s g single) ∙ go where
        go : join (cond (eqb s.kind k) (Some s) (slot k g)) (first k ss) ≡ join (slot k g) (cond (eqb s.kind k) (Some s) (first k ss))
        go =
            elim (eqb s.kind k) as (λ t. eqb s.kind k ≡ t → join (cond t (Some s) (slot k g)) (first k ss) ≡ join (slot k g) (cond t (Some s) (first k ss))) [
              | true ↦ λ e. let same : slot k g ≡ None = ap (λ (j : ℕ). slot j g) (sym (eqb-true s.kind k e)) ∙ none in rw same refl
              | false ↦ λ e. refl
            ] refl

other_once : (g : Gathered) (s : Set) (ss : List Set) → is_single s.kind ≡ false → OnceFrom g (s ∷ ss) → OnceFrom (noted s g) ss
other_once g s ss other once k single =
    let n : taken (slot k g) + count k (s ∷ ss) ≤ 1 = once k single in
    subst (λ (o : Option Set). taken o + count k ss ≤ 1) (sym (slot-noted k s g))
    (omega (arith, n, count-other k s ss (not_kind k s other single)))

pub other_holds : (g h : Gathered) (s : Set) (ss : List Set) → is_single s.kind ≡ false → HoldsAll (noted s g) ss h → HoldsAll g (s ∷ ss) h
other_holds g h s ss other holds = (
  λ k single. holds.0 k single ∙ ap (λ (o : Option Set). join o (first k ss)) (slot-noted k s g) ∙ (let e = not_kind k s other single in rw e refl),
  holds.1 ∙ noted_highs s g (find has_highs ss),
)

-- sets of which none comes twice all take their places
pub all_placed : (ss : List Set) (g : Gathered) → OnceFrom g ss → (h : Gathered) × ((placed_all g ss ≡ Ok h) × HoldsAll g ss h)
all_placed [] g once = (g, (refl, (λ k single. join-none (slot k g), join-none g.highs)))
all_placed (s ∷ ss) g once =
    elim (is_single s.kind) as (λ t. is_single s.kind ≡ t → (h : Gathered) × ((placed_all g (s ∷ ss) ≡ Ok h) × HoldsAll g (s ∷ ss) h)) [
      | true ↦ λ single.
          let none = free_slot g s ss once single in
          let next = all_placed ss (put s g) (put_once g s ss once) in
          let here : placed g s ≡ Ok (put s g) = placed-is g s ∙ rw (single, none) refl in
          (next.0, (rw here next.1.0, put_holds g next.0 s ss single none next.1.1))
      | false ↦ λ other.
          let next = all_placed ss (noted s g) (other_once g s ss other once) in
          let here : placed g s ≡ Ok (noted s g) = placed-is g s ∙ rw other refl in
          (next.0, (rw here next.1.0, other_holds g next.0 s ss other next.1.1))
    ] refl

nothing_there : (a b c d : Bool) → ◌≡◌ {A = Option Set} (cond a None (cond b None (cond c None (cond d None None)))) None
nothing_there true b c d = refl
nothing_there false true c d = refl
nothing_there false false true d = refl
nothing_there false false false true = refl
nothing_there false false false false = refl

pub once_from_nothing : (ss : List Set) → ((k : ℕ) → 1 ≤ k → k ≤ 4 → count k ss ≤ 1) → OnceFrom nothing ss
once_from_nothing ss once k single =
    let in_range = single_range k single in
    let n = once k in_range.0 in_range.1 in
    rw (nothing_there (eqb k 1) (eqb k 2) (eqb k 3) (eqb k 4)) (omega (arith, n))

-- ---- the walk

pub placed-ok : (r : Result Gathered Refusal) (ss : List Set) (h : Gathered) → (r >>= λ more. placed_all more ss) ≡ Ok h → (g : Gathered) × ((r ≡ Ok g) × (placed_all g ss ≡ Ok h))
placed-ok (Ok g) ss h e = (g, (refl, e))
placed-ok (Err d) ss h e = absurd cc

indicator_is : (octets : List ℕ) → IsIndicator octets → is_indicator octets ≡ true
indicator_is octets is = ap is_indicator is.whole ∙ go is.flags where
  go : (f : ℕ) → is_indicator (255 ∷ is.second ∷ (f * 16 + 16 / 256) ∷ (16 % 256) ∷ []) ≡ true
  go f =
      let len : eqb ((f * 16 + 16 / 256) % 16 * 256 + 16) 16 ≡ true = eq-eqb ((f * 16 + 16 / 256) % 16 * 256 + 16) 16 (omega arith) in
      rw len refl

-- a set of another type is no ICV Indicator
not_indicator : (octets : List ℕ) → front_kind octets ≢ 255 → is_indicator octets ≡ false
not_indicator octets other =
    elim (eqb (front_kind octets) 255) as (λ t. eqb (front_kind octets) 255 ≡ t → is_indicator octets ≡ false) [
      | true ↦ λ e. absurd (other (eqb-true (front_kind octets) 255 e))
      | false ↦ λ e. elim (eqb (length octets) 4) as (λ t. eqb (length octets) 4 ≡ t → is_indicator octets ≡ false) [
        | true ↦ λ d. rw (d, e) refl
        | false ↦ λ d. rw d refl
      ] refl
    ] refl

pub shaped_kind : (s : Set) → IsShaped s → s.kind ≢ 255
shaped_kind s shaped e = absurd (let clash : is_length_of 255 (length s.body) ≡ true = rw e at shaped in let no_length : true ≡ false = sym clash in cc)

front_of : (front rest : List ℕ) (s : Set) → IsSet front s → front_kind (front ++ rest) ≡ s.kind
front_of front rest s is = ap (λ (x : List ℕ). front_kind (x ++ rest)) is.whole

length_of : (front : List ℕ) (s : Set) → IsSet front s → 4 ≤ length front
length_of front s is = omega (arith, ap length is.whole)

some_left : (front rest : List ℕ) → 4 ≤ length front → eqb (length (front ++ rest)) 0 ≡ false
some_left front rest le = ne_eqb (length (front ++ rest)) 0 (λ none. omega (arith, le, none, length-append front rest))

shaped_at-is : (end : ℕ) (front rest : List ℕ) (s : Set) → IsSet front s → IsShaped s → shaped_at end (front ++ rest) ≡ Ok (s, rest)
unfolding shaped_at
shaped_at-is end front rest s is shaped = rw (set_at-is front rest s is, shaped) refl

pub gathered_again : (n end : ℕ) (ss : List Set) (g h : Gathered) (middle indicator : List ℕ) → AreSets middle ss → (indicator ≡ []) ⊎ IsIndicator indicator → AllByRecursion IsShaped ss
    → placed_all g ss ≡ Ok h → length (middle ++ indicator) ≤ n → gathered n end g (middle ++ indicator) ≡ Ok h
gathered_again n end [] g h middle indicator are last shaped places le =
    let same : g ≡ h = cc in
    let only : middle ++ indicator ≡ indicator = ap (λ (x : List ℕ). x ++ indicator) are in
    ap (gathered n end g) only ∙ ends last ∙ ap Ok same where
      ends : (indicator ≡ []) ⊎ IsIndicator indicator → gathered n end g indicator ≡ Ok g
      ends (inl e) = gathered_stop n end g indicator (rw e refl)
      ends (inr is) = gathered_stop_at n end g indicator (rw (is.whole) refl) (indicator_is indicator is)
gathered_again zero end (s ∷ ss) g h middle indicator are last shaped places le =
    absurd (let four = length_of are.0 s are.1.1.1 in omega (arith, four, le, ap length are.1.1.0, length-append are.0 are.1.0, length-append middle indicator))
gathered_again (suc n) end (s ∷ ss) g h middle indicator are last shaped places le =
    let four = length_of are.0 s are.1.1.1 in
    let place = placed-ok (placed g s) ss h places in
    let regrouped : middle ++ indicator ≡ are.0 ++ (are.1.0 ++ indicator) = ap (λ (x : List ℕ). x ++ indicator) are.1.1.0 ∙ append_assoc are.0 are.1.0 indicator in
    let goes : Goes (are.0 ++ (are.1.0 ++ indicator)) = (some_left are.0 (are.1.0 ++ indicator) four, not_indicator (are.0 ++ (are.1.0 ++ indicator)) (λ e. shaped_kind s shaped.0 (sym (front_of are.0 (are.1.0 ++ indicator) s are.1.1.1) ∙ e))) in
    let shorter : length (are.1.0 ++ indicator) ≤ n = omega (arith, four, le, ap length regrouped, length-append are.0 (are.1.0 ++ indicator)) in
    ap (gathered (suc n) end g) regrouped ∙ gathered_step n end g (are.0 ++ (are.1.0 ++ indicator)) goes
    ∙ rw (shaped_at-is end are.0 (are.1.0 ++ indicator) s are.1.1.1 shaped.0, place.1.0) (gathered_again n end ss place.0 h are.1.0 indicator are.1.1.2 last shaped.1 place.1.1 shorter)

-- ---- the one set of a type

none_left : (k : ℕ) (all ss : List Set) → count k ss ≡ 0 → AllByRecursion (λ s. s.kind ≡ k → the k all ≡ s) ss
none_left k all [] e = tt
none_left k all (s ∷ ss) e = go (eqb s.kind k) refl (λ d. none_left k all ss d) where
  go : (t : Bool) → eqb s.kind k ≡ t → (count k ss ≡ 0 → AllByRecursion (λ s. s.kind ≡ k → the k all ≡ s) ss) → AllByRecursion (λ s. s.kind ≡ k → the k all ≡ s) (s ∷ ss)
  go true d next = absurd (omega (arith, e, count-here k s ss d))
  go false d next = (λ same. absurd (eqb-false s.kind k d same), next (sym (count-other k s ss d) ∙ e))

moved : (k : ℕ) (a b : Set) → a ≡ b → (ts : List Set) → AllByRecursion (λ s. s.kind ≡ k → a ≡ s) ts → AllByRecursion (λ s. s.kind ≡ k → b ≡ s) ts
moved k a b e ts all = subst (λ (x : Set). AllByRecursion (λ s. s.kind ≡ k → x ≡ s) ts) e all

pub only_one : (k : ℕ) (ss : List Set) → count k ss ≤ 1 → AllByRecursion (λ s. s.kind ≡ k → the k ss ≡ s) ss
only_one k [] le = tt
only_one k (s ∷ ss) le = go (eqb s.kind k) refl (λ n. only_one k ss n) where
  go : (t : Bool) → eqb s.kind k ≡ t → (count k ss ≤ 1 → AllByRecursion (λ s. s.kind ≡ k → the k ss ≡ s) ss) → AllByRecursion (λ s'. s'.kind ≡ k → the k (s ∷ ss) ≡ s') (s ∷ ss)
  go true d next = (λ same. rw d refl, none_left k (s ∷ ss) ss (omega (arith, le, count-here k s ss d)))
  go false d next =
      let here : the k (s ∷ ss) ≡ the k ss = rw d refl in
      (λ same. absurd (eqb-false s.kind k d same), moved k (the k ss) (the k (s ∷ ss)) (sym here) ss (next (omega (arith, le, count-other k s ss d))))
