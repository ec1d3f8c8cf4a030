-- What is received, as the latest key and the old one.
use Rattle.std.proofs.Common.{◌≡◌, ℕ, ◌≤◌, List, [], ◌∷◌, Some, length, subst, arith}
use Rattle.sak_exchange.specs.declared.held_key.Key.{Key}
use Rattle.sak_exchange.specs.Histories.{Keying, last_key}
use Rattle.sak_exchange.specs.Held.{received, latest, old, KeepsRules}
use Rattle.sak_exchange.specs.Lives.{both}
use Rattle.sak_exchange.proofs.Shape.{IsBeside, none, one, two, shape, latest-none, latest-one, latest-two}

pub received-both : (base : ℕ) (h : List Keying) → KeepsRules base h → received h ≡ both (latest h) (old h)
received-both base h kept =
    elim (shape base h kept) [
      | none r ↦ let keys = latest-none h r in rw (keys.0, keys.1) r
      | one l r last ↦ let keys = latest-one h l r last in rw (keys.0, keys.1) r
      | two l o r last b ↦ let keys = latest-two h l o r last b.less in rw (keys.0, keys.1) r
    ]

pub at-most-two : (base : ℕ) (h : List Keying) → KeepsRules base h → length (received h) ≤ 2
at-most-two base h kept =
    elim (shape base h kept) [ none r ↦ rw r (omega arith) | one l r last ↦ rw r (omega arith) | two l o r last b ↦ rw r (omega arith) ]

-- the latest key is received first
pub record IsFirst (h : List Keying) (l : Key) : Type 0 where
  pub rest : List Key
  pub received : received h ≡ l ∷ rest
  pub last : last_key h ≡ Some l

pub first-is : (base : ℕ) (h : List Keying) (l : Key) → KeepsRules base h → latest h ≡ Some l → IsFirst h l
first-is base h l kept is =
    elim (shape base h kept) [
      | none r ↦ let keys = latest-none h r in absurd (cc (keys.0, is))
      | one k r last ↦ let keys = latest-one h k r last in
          let same : k ≡ l = cc (keys.0, is) in subst (λ (j : Key). IsFirst h j) same (record { rest = []; received = r; last = last })
      | two k o r last b ↦ let keys = latest-two h k o r last b.less in
          let same : k ≡ l = cc (keys.0, is) in subst (λ (j : Key). IsFirst h j) same (record { rest = o ∷ []; received = r; last = last })
    ]

-- two keys are received, the latest and the old one
pub record AreTwo (h : List Keying) (l o : Key) : Type 0 where
  pub received : received h ≡ l ∷ o ∷ []
  pub last : last_key h ≡ Some l
  pub beside : IsBeside h l o

pub keys-of : (h : List Keying) (l o : Key) → AreTwo h l o → (latest h ≡ Some l) × (old h ≡ Some o)
keys-of h l o are = latest-two h l o are.received are.last are.beside.less

-- where an old key is held
pub beside-old : (base : ℕ) (h : List Keying) (o : Key) → KeepsRules base h → old h ≡ Some o → (l : Key) × AreTwo h l o
beside-old base h o kept is =
    elim (shape base h kept) [
      | none r ↦ let keys = latest-none h r in absurd (cc (keys.1, is))
      | one k r last ↦ let keys = latest-one h k r last in absurd (cc (keys.1, is))
      | two k j r last b ↦ let keys = latest-two h k j r last b.less in
          let same : j ≡ o = cc (keys.1, is) in (k, subst (λ (i : Key). AreTwo h k i) same (record { received = r; last = last; beside = b }))
    ]

-- where both are
pub are-two : (base : ℕ) (h : List Keying) (l o : Key) → KeepsRules base h → latest h ≡ Some l → old h ≡ Some o → AreTwo h l o
are-two base h l o kept first second =
    let found = beside-old base h o kept second in
    let keys = keys-of h found.0 o found.1 in
    let same : found.0 ≡ l = cc (keys.0, first) in subst (λ (i : Key). AreTwo h i o) same found.1
