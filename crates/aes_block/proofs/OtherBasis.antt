-- Rounds of a block in the other basis.
use Rattle.std.proofs.Common.{◌≡◌, ℕ, ◌+◌, ◌-◌, ◌≤◌, List, [], ◌∷◌, map, refl, sym, ap, subst, ◌∙◌, arith, bit_xor, w8, Fits}
use lib.Lanes.{zip2, Each1}
use Rattle.aes_block.specs.Aes.{IsBlock, after_rounds}
use Rattle.aes_block.specs.Octet.{octets_sum}
use Rattle.aes_block.specs.State.{round}
use Rattle.aes_block.specs.Expansion.{round_key}
use Rattle.aes_block.proofs.Cipher.{after_rounds-more, after_rounds-none}
use Rattle.aes_block.proofs.Octets.{AreOctets, All-from_AreOctets, AreOctets-from_All}
use Rattle.aes_block.proofs.Rounds.{round-inverse}
use Rattle.aes_block.proofs.Steps.{octets_sum-inverse}
use Rattle.aes_block.specs.inside.Halves.{changed, masked}
use Rattle.aes_block.proofs.RoundLanes.{linear}
use Rattle.aes_block.proofs.Lanes.{IsVector}

-- the state after so many rounds, in the other basis
pub record Holds (words : List (List ℕ)) (block : List ℕ) (n : ℕ) (state : List ℕ) : Type 0 where
  pub after : IsBlock (after_rounds words block n)
  pub is : state ≡ map changed (after_rounds words block n)

pub AreOctets-from_Fits : (v : List ℕ) → Each1 (Fits w8) v → AreOctets v
AreOctets-from_Fits [] h = tt
AreOctets-from_Fits (x ∷ xs) h = (h.0.fits, AreOctets-from_Fits xs h.1)

pub vector_is_block : (v : List ℕ) → IsVector v → IsBlock v
vector_is_block v h = record { count = h.0; octets = All-from_AreOctets v (AreOctets-from_Fits v h.1) }

changed-sum : (xs ys : List ℕ) → AreOctets xs → AreOctets ys → zip2 bit_xor (map changed xs) (map changed ys) ≡ map changed (octets_sum xs ys)
changed-sum [] ys a b = refl
changed-sum (x ∷ xs) [] a b = refl
changed-sum (x ∷ xs) (y ∷ ys) a b = λ i. sym (linear x y a.0 b.0) i ∷ changed-sum xs ys a.1 b.1 i

pub begun : (words : List (List ℕ)) (block row : List ℕ) → IsBlock block → IsBlock (round_key words 0) → {state : List ℕ} → state ≡ map changed block
    → row ≡ map changed (round_key words 0) → Holds words block (1 - 1) (zip2 bit_xor state row)
begun words block row hb hk e f =
    let none = after_rounds-none words block 1 (omega arith) in
    record {
      after = subst IsBlock (sym none) ((octets_sum-inverse (round_key words 0) hk).keeps block hb);
      is = (λ i. zip2 bit_xor (e i) (f i)) ∙ changed-sum block (round_key words 0) (AreOctets-from_All block hb.octets) (AreOctets-from_All _ hk.octets) ∙ ap (map changed) (sym none);
    }

pub went_on : (words : List (List ℕ)) (block : List ℕ) (i : ℕ) → 1 ≤ i → IsBlock (round_key words i) → {before state row : List ℕ} → Holds words block (i - 1) before
    → row ≡ map masked (round_key words i)
    → ((octets key : List ℕ) → IsBlock octets → IsBlock key → before ≡ map changed octets → row ≡ map masked key → state ≡ map changed (round octets key))
    → Holds words block (i + 1 - 1) state
went_on words block i le hk holds is_row does =
    let more = after_rounds-more words block i le in
    record {
      after = subst IsBlock more ((round-inverse (round_key words i) hk).keeps (after_rounds words block (i - 1)) holds.after);
      is = does (after_rounds words block (i - 1)) (round_key words i) holds.after hk holds.is is_row ∙ ap (map changed) more;
    }
