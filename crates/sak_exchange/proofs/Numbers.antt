-- Epochs rise, key numbers of one key server rise, and no two keys of a life have one identifier.
use Rattle.std.proofs.Common.{◌≡◌, ℕ, ◌+◌, ◌<◌, true, List, [], ◌∷◌, Option, Some, None, max, unwrap_or, ap, sym, subst, arith}
use Rattle.lan_base.specs.declared.address.Mi.{Mi}
use Rattle.lan_base.specs.declared.key_id.KeyId.{KeyId}
use Rattle.lan_base.specs.Identifiers.{same_mi}
use Rattle.lan_base.specs.Falling.{IsAbove, IsFalling}
use Rattle.sak_exchange.specs.declared.held_key.Key.{Key}
use Rattle.sak_exchange.specs.Histories.{Keying, ticked, installed, began, install_count, made_count}
use Rattle.sak_exchange.specs.Held.{KeepsRules}
use Rattle.sak_exchange.specs.Taking.{greatest_of}
use Rattle.lan_base.specs.Differing.{DiffersFrom, AllDiffer}
use Rattle.sak_exchange.specs.Lives.{IsOver, IsNumbered, TakesNoneOfOwn, epochs, numbers_of, identifiers}
use Rattle.sak_exchange.proofs.Cases.{by_test}
use Rattle.sak_exchange.proofs.Members.{same-equal, same-itself}

over-more : (o : Option ℕ) (n : ℕ) → IsOver o n → IsOver o (n + 1)
over-more None n over = tt
over-more (Some k) n over = omega arith

over-max : (o : Option ℕ) (m n : ℕ) → max m (unwrap_or o 0) < n → IsOver o n
over-max None m n less = tt
over-max (Some k) m n less = omega arith

over-both : (o : Option ℕ) (m n : ℕ) → m < n → IsOver o n → max m (unwrap_or o 0) < n
over-both None m n less over = omega arith
over-both (Some k) m n less over = omega arith

-- the number of the next key that is made is above those of the station's own keys
made-over : (own : Mi) (h : List Keying) → IsNumbered own h → TakesNoneOfOwn own h → IsOver (greatest_of own h) (made_count h + 1)
made-over own [] n none = tt
made-over own (ticked s ∷ h) n none = made-over own h n none
made-over own (installed None k ∷ h) n none = rw none.0 (made-over own h n.1 none.1)
made-over own (installed (Some r) k ∷ h) n none =
    let this : same_mi k.id.server own ≡ true = rw n.0 (same-itself own) in
    let number = n.1 in
    rw this (over-both (greatest_of own h) k.id.number ((made_count h + 1) + 1) (omega arith) (over-more (greatest_of own h) (made_count h + 1) (made-over own h n.2 none)))
made-over own (began e ∷ h) n none = made-over own h n none

-- each key has a number above all that were installed of its server
over-each : (own : Mi) (h : List Keying) (r : Option (List Mi)) (k : Key) → IsNumbered own (installed r k ∷ h) → TakesNoneOfOwn own (installed r k ∷ h) → IsOver (greatest_of k.id.server h) k.id.number
over-each own h None k n none = n.0
over-each own h (Some r) k n none =
    subst (λ (m : ℕ). IsOver (greatest_of k.id.server h) m) (sym n.1) (subst (λ (s : Mi). IsOver (greatest_of s h) (made_count h + 1)) (sym n.0) (made-over own h n.2 none))

numbered-rest : (own : Mi) (h : List Keying) (r : Option (List Mi)) (k : Key) → IsNumbered own (installed r k ∷ h) → IsNumbered own h
numbered-rest own h None k n = n.1
numbered-rest own h (Some r) k n = n.2

none-rest : (own : Mi) (h : List Keying) (r : Option (List Mi)) (k : Key) → TakesNoneOfOwn own (installed r k ∷ h) → TakesNoneOfOwn own h
none-rest own h None k none = none.1
none-rest own h (Some r) k none = none

above-numbers : (s : Mi) (h : List Keying) (n : ℕ) → IsOver (greatest_of s h) n → IsAbove n (numbers_of s h)
above-numbers s [] n over = tt
above-numbers s (ticked b ∷ h) n over = above-numbers s h n over
above-numbers s (installed r k ∷ h) n over =
    by_test (same_mi k.id.server s)
    (λ t. let less = rw t at over in rw t (omega arith, above-numbers s h n (over-max (greatest_of s h) k.id.number n less)))
    (λ t. let rest = rw t at over in rw t (above-numbers s h n rest))
above-numbers s (began e ∷ h) n over = above-numbers s h n over

pub numbers-fall : (own s : Mi) (h : List Keying) → IsNumbered own h → TakesNoneOfOwn own h → IsFalling (numbers_of s h)
numbers-fall own s [] n none = tt
numbers-fall own s (ticked b ∷ h) n none = numbers-fall own s h n none
numbers-fall own s (installed r k ∷ h) n none =
    let rest = numbers-fall own s h (numbered-rest own h r k n) (none-rest own h r k none) in
    by_test (same_mi k.id.server s)
    (λ t. let over = subst (λ (m : Mi). IsOver (greatest_of m h) k.id.number) (same-equal k.id.server s t) (over-each own h r k n none) in rw t (above-numbers s h k.id.number over, rest))
    (λ t. rw t rest)
numbers-fall own s (began e ∷ h) n none = numbers-fall own s h n none

is-none : (h : List Keying) (i : KeyId) → IsOver (greatest_of i.server h) i.number → DiffersFrom i (identifiers h)
is-none [] i over = tt
is-none (ticked s ∷ h) i over = is-none h i over
is-none (installed r k ∷ h) i over =
    by_test (same_mi k.id.server i.server)
    (λ t. let less = rw t at over in (λ e. let same = ap (λ (j : KeyId). j.number) e in omega arith, is-none h i (over-max (greatest_of i.server h) k.id.number i.number less)))
    (λ t. let rest = rw t at over in (
      λ e. let same : k.id.server ≡ i.server = sym (ap (λ (j : KeyId). j.server) e) in
          let never : same_mi k.id.server i.server ≡ true = rw same (same-itself i.server) in absurd (cc (t, never)),
      is-none h i rest,
    ))
is-none (began e ∷ h) i over = is-none h i over

pub identifiers-differ : (own : Mi) (h : List Keying) → IsNumbered own h → TakesNoneOfOwn own h → AllDiffer (identifiers h)
identifiers-differ own [] n none = tt
identifiers-differ own (ticked s ∷ h) n none = identifiers-differ own h n none
identifiers-differ own (installed r k ∷ h) n none =
    (is-none h k.id (over-each own h r k n none), identifiers-differ own h (numbered-rest own h r k n) (none-rest own h r k none))
identifiers-differ own (began e ∷ h) n none = identifiers-differ own h n none

-- ---- epochs

above-epochs : (base n : ℕ) (h : List Keying) → KeepsRules base h → base + install_count h < n → IsAbove n (epochs h)
above-epochs base n [] kept less = tt
above-epochs base n (ticked s ∷ h) kept less = above-epochs base n h kept less
above-epochs base n (installed r k ∷ h) kept less = let next = kept.0 in (omega arith, above-epochs base n h kept.2 (omega arith))
above-epochs base n (began e ∷ h) kept less = above-epochs base n h kept.1 less

pub epochs-fall : (base : ℕ) (h : List Keying) → KeepsRules base h → IsFalling (epochs h)
epochs-fall base [] kept = tt
epochs-fall base (ticked s ∷ h) kept = epochs-fall base h kept
epochs-fall base (installed r k ∷ h) kept = let next = kept.0 in (above-epochs base k.epoch h kept.2 (omega arith), epochs-fall base h kept.2)
epochs-fall base (began e ∷ h) kept = epochs-fall base h kept.1
