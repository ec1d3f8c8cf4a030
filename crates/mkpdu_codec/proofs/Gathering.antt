-- The sets that are gathered stand in the octets, none of them twice.
use Rattle.std.specs.Prelude.{◌&&◌, is_some}
use Rattle.std.specs.List.{AllByRecursion}
use Rattle.std.proofs.Common.{◌≡◌, ℕ, zero, suc, ◌+◌, ◌*◌, ◌/◌, ◌<◌, ◌≤◌, ◌⊎◌, inl, inr, Bool, true, false, cond, eqb, List, [], ◌∷◌, ◌++◌, length, take, drop, Option, Some, None, Result, Ok, Err, refl, sym, ap, subst, ◌∙◌, arith, length-drop, length-take, append_assoc}
use Rattle.std.proofs.lemmas.Bool.{eqb-true, leb-true, cases_lt, and_parts}
use Rattle.std.proofs.lemmas.List.{nil_from_length, take-append-drop, get_or-take, get_or_past}
use Rattle.mkpdu_codec.specs.declared.refusal.Refusal.{Refusal}
use Rattle.mkpdu_codec.specs.Frames.{Set, AreSets, IsIndicator}
use Rattle.mkpdu_codec.specs.Refusals.{is_whole, is_indicator, is_length_of, is_single, front_kind, front_length, front_size}
use Rattle.mkpdu_codec.specs.Reading.{◌>>=◌, Gathered, noted, placed, shaped_at, gathered}
use Rattle.mkpdu_codec.proofs.SetOctets.{IsBytes, IsBytes-drop, front_set, set_at-is_set, length-front_set}
use Rattle.mkpdu_codec.proofs.Places.{slot, put, placing, placed-is, slot-put, slot-noted}
use Rattle.mkpdu_codec.proofs.Loops.{gathered_step}
use Rattle.mkpdu_codec.proofs.Order.{shaped_at-whole, shaped_at-not, shaped_at-cut}
use Rattle.mkpdu_codec.proofs.Walking.{IsShaped, placed_all, placed-ok, count, taken, join-none, OnceFrom, HoldsAll, count-here, count-other, not_kind, put_holds, other_holds}

pub IsBytes-take : (n : ℕ) (octets : List ℕ) → IsBytes octets → IsBytes (take n octets)
IsBytes-take n octets h i =
    elim (cases_lt i n) [
      | inl lt ↦ rw (get_or-take n octets i 0 lt) (h i)
      | inr le ↦ rw (get_or_past (take n octets) i 0 (omega (arith, length-take n octets))) (omega arith)
    ]

-- ---- the places

taken_most : (o : Option Set) → taken o ≤ 1
taken_most None = omega arith
taken_most (Some s) = omega arith

-- what placing a set gave
record Placed (g : Gathered) (s : Set) (more : Gathered) : Type 0 where
  made : ((is_single s.kind ≡ true) × (slot s.kind g ≡ None) × (put s g ≡ more)) ⊎ ((is_single s.kind ≡ false) × (noted s g ≡ more))

none_is : (o : Option Set) → is_some o ≡ false → o ≡ None
none_is None e = refl
none_is (Some s) e = absurd cc

placed_gave : (g : Gathered) (s : Set) (more : Gathered) → placed g s ≡ Ok more → Placed g s more
placed_gave g s more e = go (is_single s.kind) refl (is_some (slot s.kind g)) refl (sym (placed-is g s) ∙ e) where
  go : (b : Bool) → is_single s.kind ≡ b → (t : Bool) → is_some (slot s.kind g) ≡ t → placing g s ≡ Ok more → Placed g s more
  go true b true t d = absurd (let clash = rw (b, t) at d in cc)
  go true b false t d = let same = rw (b, t) at d in record { made = inl (b, none_is (slot s.kind g) t, cc) }
  go false b t u d = let same = rw b at d in record { made = inr (b, cc) }

once_again : (g : Gathered) (s : Set) (ss : List Set) → slot s.kind g ≡ None → OnceFrom (put s g) ss → OnceFrom g (s ∷ ss)
once_again g s ss none once k single =
    let n : taken (slot k (put s g)) + count k ss ≤ 1 = once k single in
    let m = rw (slot-put k s g single) at n in
    go (eqb s.kind k) refl m where
      go : (t : Bool) → eqb s.kind k ≡ t → taken (cond (eqb s.kind k) (Some s) (slot k g)) + count k ss ≤ 1 → taken (slot k g) + count k (s ∷ ss) ≤ 1
      go true e m =
          let here : slot k g ≡ None = ap (λ (j : ℕ). slot j g) (sym (eqb-true s.kind k e)) ∙ none in
          let l : 1 + count k ss ≤ 1 = rw e at m in
          rw here (omega (arith, l, count-here k s ss e))
      go false e m = let l : taken (slot k g) + count k ss ≤ 1 = rw e at m in omega (arith, l, count-other k s ss e)

other_again : (g : Gathered) (s : Set) (ss : List Set) → is_single s.kind ≡ false → OnceFrom (noted s g) ss → OnceFrom g (s ∷ ss)
other_again g s ss other once k single =
    let n = subst (λ (o : Option Set). taken o + count k ss ≤ 1) (slot-noted k s g) (once k single) in
    omega (arith, n, count-other k s ss (not_kind k s other single))

pub all_held : (ss : List Set) (g h : Gathered) → placed_all g ss ≡ Ok h → OnceFrom g ss × HoldsAll g ss h
all_held [] g h e =
    let same : g ≡ h = cc in
    (λ k single. (let most = taken_most (slot k g) in omega (arith, most)), (λ k single. ap (slot k) (sym same) ∙ join-none (slot k g), ap (λ (x : Gathered). x.highs) (sym same) ∙ join-none g.highs))
all_held (s ∷ ss) g h e =
    let p = placed-ok (placed g s) ss h e in
    go (placed_gave g s p.0 p.1.0).made (all_held ss p.0 h p.1.1) where
      go : {more : Gathered} → ((is_single s.kind ≡ true) × (slot s.kind g ≡ None) × (put s g ≡ more)) ⊎ ((is_single s.kind ≡ false) × (noted s g ≡ more)) → OnceFrom more ss × HoldsAll more ss h → OnceFrom g (s ∷ ss) × HoldsAll g (s ∷ ss) h
      go (inl made) next =
          let back = subst (λ (x : Gathered). OnceFrom x ss × HoldsAll x ss h) (sym made.2) next in
          (once_again g s ss made.1 back.0, put_holds g h s ss made.0 made.1 back.1)
      go (inr made) next =
          let back = subst (λ (x : Gathered). OnceFrom x ss × HoldsAll x ss h) (sym made.1) next in
          (other_again g s ss made.0 back.0, other_holds g h s ss made.0 back.1)

-- ---- the walk

-- a set that was read from octets
pub record IsRead (s : Set) : Type 0 where
  pub shaped : IsShaped s
  pub body : IsBytes s.body
  pub second : s.second < 256

-- what was gathered
pub record Walked (g h : Gathered) (octets : List ℕ) : Type 0 where
  pub others : List Set
  pub middle : List ℕ
  pub indicator : List ℕ
  pub whole : octets ≡ middle ++ indicator
  pub are : AreSets middle others
  pub last : (indicator ≡ []) ⊎ IsIndicator indicator
  pub read : AllByRecursion IsRead others
  pub places : placed_all g others ≡ Ok h

indicator_from : (octets : List ℕ) → IsBytes octets → is_indicator octets ≡ true → IsIndicator octets
indicator_from octets bytes e =
    let p = and_parts (eqb (length octets) 4 && eqb (front_kind octets) 255) (eqb (front_length octets) 16) e in
    let q = and_parts (eqb (length octets) 4) (eqb (front_kind octets) 255) p.0 in
    go octets bytes (eqb-true (length octets) 4 q.0) (eqb-true (front_kind octets) 255 q.1) (eqb-true (front_length octets) 16 p.1) where
      go : (octets : List ℕ) → IsBytes octets → length octets ≡ 4 → front_kind octets ≡ 255 → front_length octets ≡ 16 → IsIndicator octets
      go [] b len kind l = absurd (omega arith)
      go (w ∷ []) b len kind l = absurd (omega arith)
      go (w ∷ x ∷ []) b len kind l = absurd (omega arith)
      go (w ∷ x ∷ y ∷ []) b len kind l = absurd (omega arith)
      go (w ∷ x ∷ y ∷ z ∷ []) b len kind l =
          let third : y / 16 * 16 + 0 ≡ y = omega (arith, b 2, b 3, l) in
          let fourth : z ≡ 16 = omega (arith, b 2, b 3, l) in
          record { second = x; flags = y / 16; whole = rw (kind, third, fourth) refl }
      go (w ∷ x ∷ y ∷ z ∷ v ∷ rest) b len kind l = absurd (omega arith)

read_front : (octets : List ℕ) → IsBytes octets → is_whole octets ≡ true → is_length_of (front_kind octets) (front_length octets) ≡ true → IsRead (front_set octets)
read_front octets bytes w l = record {
  shaped = ap (is_length_of (front_kind octets)) (length-front_set octets w) ∙ l;
  body = IsBytes-take (front_length octets) (drop 4 octets) (IsBytes-drop 4 octets bytes);
  second = bytes 1;
}

stops : (g h : Gathered) (octets : List ℕ) → (octets ≡ []) ⊎ IsIndicator octets → g ≡ h → Walked g h octets
stops g h octets last same = record { others = []; middle = []; indicator = octets; whole = refl; are = refl; last = last; read = tt; places = ap Ok same }

bind_gathered : {X : Type 0} (r : Result X Refusal) (f : X → Result Gathered Refusal) (h : Gathered) → (r >>= f) ≡ Ok h → (x : X) × ((r ≡ Ok x) × (f x ≡ Ok h))
bind_gathered (Ok x) f h e = (x, (refl, e))
bind_gathered (Err d) f h e = absurd cc

goes_on : (g more h : Gathered) (octets : List ℕ) → IsBytes octets → is_whole octets ≡ true → is_length_of (front_kind octets) (front_length octets) ≡ true → placed g (front_set octets) ≡ Ok more
    → Walked more h (drop (front_size octets) octets) → Walked g h octets
goes_on g more h octets bytes w l here behind = record {
  others = front_set octets ∷ behind.others;
  middle = take (front_size octets) octets ++ behind.middle;
  indicator = behind.indicator;
  whole = sym (take-append-drop (front_size octets) octets) ∙ ap (λ (x : List ℕ). take (front_size octets) octets ++ x) behind.whole ∙ sym (append_assoc (take (front_size octets) octets) behind.middle behind.indicator);
  are = (take (front_size octets) octets, (behind.middle, (refl, set_at-is_set octets bytes w, behind.are)));
  last = behind.last;
  read = (read_front octets bytes w l, behind.read);
  places = rw here behind.places;
}

pub walked : (n end : ℕ) (octets : List ℕ) (g h : Gathered) → IsBytes octets → length octets ≤ n → gathered n end g octets ≡ Ok h → Walked g h octets
unfolding gathered
walked zero end octets g h bytes le e = stops g h octets (inl (nil_from_length octets (omega arith))) cc
walked (suc n) end octets g h bytes le e =
    elim (eqb (length octets) 0) as (λ t. eqb (length octets) 0 ≡ t → Walked g h octets) [
      | true ↦ λ d. stops g h octets (inl (nil_from_length octets (eqb-true (length octets) 0 d))) (let same = rw d at e in cc)
      | false ↦ λ d. elim (is_indicator octets) as (λ t. is_indicator octets ≡ t → Walked g h octets) [
        | true ↦ λ i. stops g h octets (inr (indicator_from octets bytes i)) (let same = rw (d, i) at e in cc)
        | false ↦ λ i. elim (is_whole octets) as (λ t. is_whole octets ≡ t → Walked g h octets) [
          | false ↦ λ w. absurd (let step = sym (gathered_step n end g octets (d, i)) ∙ e in let f = bind_gathered (shaped_at end octets) _ h step in let clash = sym (shaped_at-cut end octets w) ∙ f.1.0 in cc)
          | true ↦ λ w. elim (is_length_of (front_kind octets) (front_length octets)) as (λ t. is_length_of (front_kind octets) (front_length octets) ≡ t → Walked g h octets) [
            | false ↦ λ l. absurd (let step = sym (gathered_step n end g octets (d, i)) ∙ e in let f = bind_gathered (shaped_at end octets) _ h step in let clash = sym (shaped_at-not end octets w l) ∙ f.1.0 in cc)
            | true ↦ λ l.
                let step = sym (gathered_step n end g octets (d, i)) ∙ e in
                let there = rw (shaped_at-whole end octets w l) at step in
                let f = bind_gathered (placed g (front_set octets)) (λ more. gathered n end more (drop (front_size octets) octets)) h there in
                goes_on g f.0 h octets bytes w l f.1.0 (walked n end (drop (front_size octets) octets) f.0 h (IsBytes-drop (front_size octets) octets bytes) (omega (arith, le, leb-true _ _ w, length-drop (front_size octets) octets)) f.1.1)
          ] refl
        ] refl
      ] refl
    ] refl
