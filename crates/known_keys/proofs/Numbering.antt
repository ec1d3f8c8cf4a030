-- The numbers of keys, and one key more.
use Rattle.std.proofs.Common.{◌≡◌, ◌∙◌, ◌+◌, ◌<◌, ◌≤◌, ℕ, suc, Bool, true, false, cond, List, [], ◌∷◌, ◌++◌, length, Option, Some, None, refl, sym, ap, subst, arith, length-append}
use Rattle.std.proofs.lemmas.List.{length-map, map-append}
use Rattle.aes_block.specs.declared.secret.Secret.{Secret}
use Rattle.aes_block.specs.Secrets.{same_secret, secret_octets}
use Rattle.aes_block.proofs.Public.{same_secret-is, same_secret-itself}
use Rattle.known_keys.specs.Numbered.{most_keys, number_from, number_in, with_number, with_key}
use Rattle.known_keys.specs.Maps.{number_by, Keyed, AreKept}
use Rattle.known_keys.specs.inside.Steps.{IsKeyed}

-- the number of a SAK where one key more stands last
abbrev pub last_or : Option ℕ → Option ℕ → Option ℕ
last_or (Some n) last = Some n
last_or None last = last

from-more : (n : ℕ) (keys : List Secret) (key sak : Secret)
    → number_from n (keys ++ key ∷ []) sak
    ≡ last_or (number_from n keys sak) (cond (same_secret key sak) (Some (n + length keys)) None)
from-more n [] key sak = ap (λ m. cond (same_secret key sak) (Some m) None) (let e : n ≡ n + 0 = omega arith in e)
from-more n (k ∷ keys) key sak = go (same_secret k sak) (from-more (suc n) keys key sak)
  where
    go : (b : Bool) → number_from (suc n) (keys ++ key ∷ []) sak
        ≡ last_or (number_from (suc n) keys sak) (cond (same_secret key sak) (Some (suc n + length keys)) None)
        → cond b (Some n) (number_from (suc n) (keys ++ key ∷ []) sak)
        ≡ last_or (cond b (Some n) (number_from (suc n) keys sak))
        (cond (same_secret key sak) (Some (n + length (k ∷ keys))) None)
    go true _ = refl
    go false before =
        before
        ∙ ap (λ m. last_or (number_from (suc n) keys sak) (cond (same_secret key sak) (Some m) None))
        (let e : suc n + length keys ≡ n + length (k ∷ keys) = omega arith in e)

-- a number that is told is one of the keys'
pub from-within : (n : ℕ) (keys : List Secret) (sak : Secret) (m : ℕ) → number_from n keys sak ≡ Some m
    → (n ≤ m) × (m < n + length keys)
from-within n [] sak m e = absurd (cc e)
from-within n (k ∷ keys) sak m e = go (same_secret k sak) e (from-within (suc n) keys sak m)
  where
    go : (b : Bool) → cond b (Some n) (number_from (suc n) keys sak) ≡ Some m
        → (number_from (suc n) keys sak ≡ Some m → (suc n ≤ m) × (m < suc n + length keys))
        → (n ≤ m) × (m < n + length (k ∷ keys))
    go true is before = let same : n ≡ m = cc is in (omega (arith, same), omega (arith, same))
    go false is before = let both = before is in
        let low = both.0 in let high = both.1 in (omega (arith, low), omega (arith, high))

pub in-within : (keys : List Secret) (sak : Secret) (m : ℕ) → number_in keys sak ≡ Some m
    → (0 < m) × (m ≤ length keys)
in-within keys sak m e = let both = from-within 1 keys sak m e in
    let low = both.0 in let high = both.1 in (omega (arith, low), omega (arith, high))

-- a SAK that has no number yet has the next one where it stands last
pub in-more : (keys : List Secret) (sak : Secret) → number_in keys sak ≡ None
    → number_in (keys ++ sak ∷ []) sak ≡ Some (length keys + 1)
in-more keys sak none =
    from-more 1 keys sak sak
    ∙ ap (λ o. last_or o (cond (same_secret sak sak) (Some (1 + length keys)) None)) none
    ∙ ap (λ b. cond b (Some (1 + length keys)) None) (same_secret-itself sak)
    ∙ ap (λ n. Some n) (let e : 1 + length keys ≡ length keys + 1 = omega arith in e)

last-none : (o : Option ℕ) → last_or o None ≡ o
last-none None = refl
last-none (Some n) = refl

-- the numbers of all SAKs where one key more stands last
pub numbers-more : (keys : List Secret) (key : Secret) → number_in keys key ≡ None → (sak : Secret)
    → cond (same_secret key sak) (Some (length keys + 1)) (number_in keys sak) ≡ number_in (keys ++ key ∷ []) sak
numbers-more keys key none sak = go (same_secret key sak) refl
  where
    go : (b : Bool) → same_secret key sak ≡ b
        → cond b (Some (length keys + 1)) (number_in keys sak) ≡ number_in (keys ++ key ∷ []) sak
    go true same =
        sym (in-more keys key none)
        ∙ ap (λ (s : Secret). number_in (keys ++ key ∷ []) s) (same_secret-is key sak same)
    go false apart =
        sym (last-none (number_in keys sak))
        ∙ sym (ap (λ b. last_or (number_in keys sak) (cond b (Some (1 + length keys)) None)) apart)
        ∙ sym (from-more 1 keys key sak)

-- ---- with a key

pub with-none : (keys : List Secret) (sak : Secret) → number_in keys sak ≡ None
    → with_key keys (Some sak) ≡ keys ++ sak ∷ []
with-none keys sak none = ap (λ (o : Option ℕ). with_number keys sak o) none

pub with-some : (keys : List Secret) (sak : Secret) (n : ℕ) → number_in keys sak ≡ Some n
    → with_key keys (Some sak) ≡ keys
with-some keys sak n some = ap (λ (o : Option ℕ). with_number keys sak o) some

pub length-more : (keys : List Secret) (sak : Secret) → length (keys ++ sak ∷ []) ≡ length keys + 1
length-more keys sak = length-append keys (sak ∷ [])

pub no-fewer : (keys : List Secret) (o : Option Secret) → length keys ≤ length (with_key keys o)
no-fewer keys None = omega arith
no-fewer keys (Some sak) = go (number_in keys sak)
  where
    go : (o : Option ℕ) → length keys ≤ length (with_number keys sak o)
    go None = let e = length-more keys sak in omega (arith, e)
    go (Some n) = omega arith

-- ---- what is kept

-- a SAK that has a number
there : (saks : List Secret) (sak : Secret) (n : ℕ) (k : Keyed) → Some n ≡ number_by k.numbers sak → AreKept saks k
    → number_in saks sak ≡ Some n
there saks sak n k found kept = sym (kept.numbered sak) ∙ sym found

pub not-full : (saks : List Secret) (sak : Secret) (n : ℕ) (k : Keyed) → Some n ≡ number_by k.numbers sak
    → AreKept saks k → most_keys < length (with_key saks (Some sak)) → ⊥
not-full saks sak n k found kept over =
    let same = ap (λ (ss : List Secret). length ss) (with-some saks sak n (there saks sak n k found kept)) in
    let few = kept.few in omega (arith, same, few, over)

no-number : (saks : List Secret) (sak : Secret) (k : Keyed) → None ≡ number_by k.numbers sak → AreKept saks k
    → number_in saks sak ≡ None
no-number saks sak k found kept = sym (kept.numbered sak) ∙ sym found

-- there are as many keys as are prepared
pub as-many : (saks : List Secret) (k : Keyed) → AreKept saks k → length k.prepared ≡ length saks
as-many saks k kept =
    ap (λ (ks : List (List ℕ)). length ks) kept.prepared ∙ length-map saks secret_octets

pub longer : (saks : List Secret) (sak : Secret) (k : Keyed) → None ≡ number_by k.numbers sak → AreKept saks k
    → length (with_key saks (Some sak)) ≡ length k.prepared + 1
longer saks sak k found kept =
    ap (λ (ss : List Secret). length ss) (with-none saks sak (no-number saks sak k found kept)) ∙ length-more saks sak
    ∙ ap (λ n. n + 1) (sym (as-many saks k kept))

-- a SAK that has none yet
pub keyed-new : (saks : List Secret) (sak : Secret) (n : ℕ) (old new : Keyed) → None ≡ number_by old.numbers sak
    → AreKept saks old → n ≡ length old.prepared + 1 → n ≤ most_keys
    → new.prepared ≡ old.prepared ++ secret_octets sak ∷ []
    → ((s : Secret) → number_by new.numbers s ≡ cond (same_secret sak s) (Some n) (number_by old.numbers s))
    → IsKeyed saks sak n new
keyed-new saks sak n old new found kept counted within pushed put =
    let none = no-number saks sak old found kept in
    let is : n ≡ length saks + 1 = counted ∙ ap (λ m. m + 1) (as-many saks old kept) in
    let same = with-none saks sak none in
    record {
      kept = subst (λ (ss : List Secret). AreKept ss new) (sym same) (record {
        prepared = pushed
            ∙ ap (λ (ks : List (List ℕ)). ks ++ secret_octets sak ∷ []) kept.prepared
            ∙ sym (map-append secret_octets saks (sak ∷ []));
        numbered = λ s. put s
            ∙ ap (λ o. cond (same_secret sak s) (Some n) o) (kept.numbered s)
            ∙ ap (λ m. cond (same_secret sak s) (Some m) (number_in saks s)) is
            ∙ numbers-more saks sak none s;
        few = let f = length-more saks sak in omega (arith, f, is, within);
      });
      number = ap (λ (ss : List Secret). number_in ss sak) same ∙ in-more saks sak none ∙ ap (λ m. Some m) (sym is);
    }
