-- Loops that read as long as there is something.
use Rattle.std.proofs.Common.{◌≡◌, ℕ, zero, suc, ◌+◌, ◌-◌, ◌≤◌, Bool, true, false, cond, eqb, List, [], ◌∷◌, ◌++◌, length, Option, Some, None, Result, Ok, Err, refl, sym, ap, subst, ◌∙◌, arith, append_assoc}
use Rattle.std.proofs.lemmas.List.{append-nil}
use Rattle.mkpdu_codec.specs.declared.peer.Peer.{Peer}
use Rattle.mkpdu_codec.specs.declared.refusal.Refusal.{Refusal}
use Rattle.mkpdu_codec.specs.declared.refusal.Refusal.TheVariants.{Shape}
use Rattle.mkpdu_codec.specs.Frames.{Set}
use Rattle.mkpdu_codec.specs.Refusals.{is_indicator, is_length_of}
use Rattle.mkpdu_codec.specs.Reading.{◌>>=◌, Gathered, nothing, placed, with_length, shaped_at, gathered}
use Rattle.mkpdu_codec.specs.Fields.{entry_at, entries_at, set_at}
use Rattle.mkpdu_codec.proofs.Taking.{entry_at-shorter, set_at-shorter}

-- the peers in front and those that are left are the peers of all the octets
abbrev pub EntriesSoFar : List Peer → List ℕ → List ℕ → Type 0
EntriesSoFar front rest octets = (n : ℕ) × ((length rest ≤ n) × (front ++ entries_at n rest ≡ entries_at (length octets) octets))

pub entries_begin : (octets : List ℕ) → EntriesSoFar [] octets octets
entries_begin octets = (length octets, (omega arith, refl))

pub entries_go_on : (front : List Peer) (rest octets : List ℕ) (p : Peer) (behind : List ℕ) → entry_at rest ≡ Some (p, behind) → EntriesSoFar front rest octets → EntriesSoFar (front ++ p ∷ []) behind octets
unfolding entries_at
entries_go_on front rest octets p behind e s = go s.0 s.1.0 s.1.1 where
  shorter : length behind + 16 ≡ length rest
  shorter = entry_at-shorter rest (p, behind) e

  go : (n : ℕ) → length rest ≤ n → front ++ entries_at n rest ≡ entries_at (length octets) octets → EntriesSoFar (front ++ p ∷ []) behind octets
  go zero le so_far = absurd (omega (arith, shorter))
  go (suc n) le so_far =
      let step : front ++ entries_at (suc n) rest ≡ (front ++ p ∷ []) ++ entries_at n behind = rw e (sym (append_assoc front (p ∷ []) (entries_at n behind))) in
      (n, (omega (arith, shorter), sym step ∙ so_far))

pub entries_end : (front : List Peer) (rest octets : List ℕ) → entry_at rest ≡ None → EntriesSoFar front rest octets → front ≡ entries_at (length octets) octets
unfolding entries_at
entries_end front rest octets e s = go s.0 s.1.1 where
  go : (n : ℕ) → front ++ entries_at n rest ≡ entries_at (length octets) octets → front ≡ entries_at (length octets) octets
  go zero so_far = sym (append-nil front) ∙ so_far
  go (suc n) so_far =
      let step : front ++ entries_at (suc n) rest ≡ front = rw e (append-nil front) in
      sym step ∙ so_far

-- what the sets in front gave and those that are left give is what all of the octets give
abbrev pub GatheredSoFar : ℕ → Gathered → List ℕ → List ℕ → Type 0
GatheredSoFar end g rest octets = (n : ℕ) × ((length rest ≤ n) × (gathered n end g rest ≡ gathered (length octets) end nothing octets))

-- there is something left that is no ICV Indicator
abbrev pub Goes : List ℕ → Type 0
Goes rest = (eqb (length rest) 0 ≡ false) × (is_indicator rest ≡ false)

pub shaped_at-shorter : (end : ℕ) (rest : List ℕ) (x : Set × List ℕ) → shaped_at end rest ≡ Ok x → length x.1 + 4 ≤ length rest
unfolding shaped_at
shaped_at-shorter end rest x e = go (set_at rest) refl e where
  go : (o : Option (Set × List ℕ)) → set_at rest ≡ o → with_length (end - length rest) o ≡ Ok x → length x.1 + 4 ≤ length rest
  go None was d = absurd cc
  go (Some y) was d = shaped (is_length_of y.0.kind (length y.0.body)) d where
    shaped : (b : Bool) → cond b (Ok y) (Err (Shape (end - length rest))) ≡ Ok x → length x.1 + 4 ≤ length rest
    shaped true f = let p : y ≡ x = cc in subst (λ (z : Set × List ℕ). length z.1 + 4 ≤ length rest) p (set_at-shorter rest y was)
    shaped false f = absurd cc

-- one more set
pub gathered_step : (n end : ℕ) (g : Gathered) (rest : List ℕ) → Goes rest → gathered (suc n) end g rest ≡ (shaped_at end rest >>= λ s. placed g s.0 >>= λ more. gathered n end more s.1)
unfolding gathered
gathered_step n end g rest goes = rw (goes.0, goes.1) refl

-- nothing is left
pub gathered_stop : (n end : ℕ) (g : Gathered) (rest : List ℕ) → eqb (length rest) 0 ≡ true → gathered n end g rest ≡ Ok g
unfolding gathered
gathered_stop zero end g rest stops = refl
gathered_stop (suc n) end g rest stops = rw stops refl

-- an ICV Indicator is left
pub gathered_stop_at : (n end : ℕ) (g : Gathered) (rest : List ℕ) → eqb (length rest) 0 ≡ false → is_indicator rest ≡ true → gathered n end g rest ≡ Ok g
unfolding gathered
gathered_stop_at zero end g rest some stops = refl
gathered_stop_at (suc n) end g rest some stops = rw (some, stops) refl

pub gathered_go_on : (end : ℕ) (g : Gathered) (rest octets : List ℕ) (s : Set) (behind : List ℕ) (more : Gathered) → Goes rest → shaped_at end rest ≡ Ok (s, behind) → placed g s ≡ Ok more → GatheredSoFar end g rest octets → GatheredSoFar end more behind octets
gathered_go_on end g rest octets s behind more goes shaped takes so_far = go so_far.0 so_far.1.0 so_far.1.1 where
  shorter : length behind + 4 ≤ length rest
  shorter = shaped_at-shorter end rest (s, behind) shaped

  go : (n : ℕ) → length rest ≤ n → gathered n end g rest ≡ gathered (length octets) end nothing octets → GatheredSoFar end more behind octets
  go zero le same = absurd (omega (arith, shorter))
  go (suc n) le same =
      let step : gathered (suc n) end g rest ≡ gathered n end more behind = gathered_step n end g rest goes ∙ rw (shaped, takes) refl in
      (n, (omega (arith, shorter), sym step ∙ same))

-- an error of one more set is that of the whole
pub gathered_fails : (d : Refusal) (end : ℕ) (g : Gathered) (rest octets : List ℕ) → Goes rest → (shaped_at end rest >>= λ s. placed g s.0) ≡ Err d → GatheredSoFar end g rest octets → gathered (length octets) end nothing octets ≡ Err d
gathered_fails d end g rest octets goes fails so_far = go so_far.0 so_far.1.0 so_far.1.1 where
  step : (a : Result (Set × List ℕ) Refusal) (n : ℕ) → (a >>= λ s. placed g s.0) ≡ Err d → (a >>= λ s. placed g s.0 >>= λ more. gathered n end more s.1) ≡ Err d
  step (Err x) n f = let p : x ≡ d = cc in ap Err p
  step (Ok s) n f = rw f refl

  go : (n : ℕ) → length rest ≤ n → gathered n end g rest ≡ gathered (length octets) end nothing octets → gathered (length octets) end nothing octets ≡ Err d
  go zero le same =
      let none : length rest ≡ 0 = omega arith in
      let empty : eqb (length rest) 0 ≡ true = rw none refl in
      absurd (let no : true ≡ false = sym empty ∙ goes.0 in cc)
  go (suc n) le same = sym same ∙ gathered_step n end g rest goes ∙ step (shaped_at end rest) n fails

pub gathered_end : (end : ℕ) (g : Gathered) (rest octets : List ℕ) → eqb (length rest) 0 ≡ true → GatheredSoFar end g rest octets → gathered (length octets) end nothing octets ≡ Ok g
gathered_end end g rest octets stops so_far = sym so_far.1.1 ∙ gathered_stop so_far.0 end g rest stops

pub gathered_end_at : (end : ℕ) (g : Gathered) (rest octets : List ℕ) → eqb (length rest) 0 ≡ false → is_indicator rest ≡ true → GatheredSoFar end g rest octets → gathered (length octets) end nothing octets ≡ Ok g
gathered_end_at end g rest octets some stops so_far = sym so_far.1.1 ∙ gathered_stop_at so_far.0 end g rest some stops
