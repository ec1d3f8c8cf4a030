-- The lowest acceptable number is the greatest of the senders'.
use Rattle.std.proofs.Common.{◌≡◌, ℕ, ◌+◌, ◌-◌, ◌≤◌, ◌^◌, ◌⊎◌, ◌&&◌, Bool, true, false, cond, max, min, List, [], ◌∷◌, inl, inr, refl, sym, ap, ◌∙◌, arith}
use Rattle.std.specs.List.{filter}
use Rattle.std.proofs.lemmas.Bool.{cases_lt}
use Rattle.lan_base.specs.declared.association_number.AssociationNumber.{AssociationNumber}
use Rattle.lan_base.specs.declared.address.Sci.{Sci}
use Rattle.lan_base.specs.Identifiers.{same_sci}
use Rattle.rx_slots.specs.Numbers.{Taken, is_under, is_of, greatest, next_number, lowest, lowest_for}
use Rattle.rx_slots.specs.Standing.{next_numbers}
use Rattle.rx_slots.proofs.Identifiers.{by_test, same_sci-itself}
use Rattle.rx_slots.proofs.Greatest.{greatest-less}
use Rattle.rx_slots.proofs.Lists.{next-more, top-more}

-- one more number of one kind or the other
more_below : (a b : Bool) (n x y : ℕ) → x ≤ y → cond (a && b) (max n x) x ≤ cond a (max n y) y
more_below true true n x y h = omega arith
more_below true false n x y h = omega arith
more_below false b n x y h = h

pub next-below : (past : List Taken) (an : AssociationNumber) (sci : Sci) → next_number past an sci ≤ greatest (next_numbers past an)
next-below [] an sci = omega arith
next-below (t ∷ past) an sci =
    let before : next_number past an sci ≤ greatest (next_numbers past an) = next-below past an sci in
    let both : cond (is_of an sci t) (max (t.pn + 1) (next_number past an sci)) (next_number past an sci)
    ≤ cond (is_under an t) (max (t.pn + 1) (greatest (next_numbers past an))) (greatest (next_numbers past an)) =
    more_below (is_under an t) (same_sci t.sci sci) (t.pn + 1) _ _ before in
    omega (arith, both, next-more past t an sci, top-more past t an)

pub lowest_is : (window : ℕ) (an : AssociationNumber) (past : List Taken) → lowest window past an ≡ lowest_for window (greatest (next_numbers past an))
lowest_is window an past = sym (ap (λ (n : ℕ). min n (2 ^ 32 - 1)) (greatest-less window (filter (is_under an) past)))

pub no_less : (window : ℕ) (an : AssociationNumber) (past : List Taken) (sci : Sci) → lowest_for window (next_number past an sci) ≤ lowest window past an
no_less window an past sci = omega (arith, lowest_is window an past, next-below past an sci)

-- a number of a sender that is greater than all before it
reached_by : (past : List Taken) (an : AssociationNumber) (t : Taken) → is_under an t ≡ true → greatest (next_numbers past an) ≤ t.pn + 1
    → next_number (t ∷ past) an t.sci ≡ greatest (next_numbers (t ∷ past) an)
reached_by past an t under h =
    let own : is_of an t.sci t ≡ true = λ i. under i && same_sci-itself t.sci i in
    let here : next_number (t ∷ past) an t.sci ≡ max (t.pn + 1) (next_number past an t.sci) =
    next-more past t an t.sci ∙ ap (λ (b : Bool). cond b (max (t.pn + 1) (next_number past an t.sci)) (next_number past an t.sci)) own in
    let there : greatest (next_numbers (t ∷ past) an) ≡ max (t.pn + 1) (greatest (next_numbers past an)) =
    top-more past t an ∙ ap (λ (b : Bool). cond b (max (t.pn + 1) (greatest (next_numbers past an))) (greatest (next_numbers past an))) under in
    omega (arith, here, there, next-below past an t.sci, h)

-- a number that is no greater than one before it
kept_at : (past : List Taken) (an : AssociationNumber) (t : Taken) (sci : Sci) → next_number past an sci ≡ greatest (next_numbers past an)
    → t.pn + 1 ≤ greatest (next_numbers past an) → next_number (t ∷ past) an sci ≡ greatest (next_numbers (t ∷ past) an)
kept_at past an t sci e h = next-more past t an sci ∙ same (is_under an t) (same_sci t.sci sci) _ _ _ e h ∙ sym (top-more past t an)
  where
    same : (a b : Bool) (n x y : ℕ) → x ≡ y → n ≤ y → cond (a && b) (max n x) x ≡ cond a (max n y) y
    same true true n x y e h = omega arith
    same true false n x y e h = omega arith
    same false b n x y e h = e

pub reached : (past : List Taken) (an : AssociationNumber) → (greatest (next_numbers past an) ≡ 1) ⊎ ((sci : Sci) × (next_number past an sci ≡ greatest (next_numbers past an)))
reached [] an = inl refl
reached (t ∷ past) an = by_test (is_under an t)
    (λ under. elim (cases_lt (greatest (next_numbers past an)) (t.pn + 1)) [
      | inl h ↦ inr (t.sci, reached_by past an t under (omega arith))
      | inr h ↦ elim (reached past an) [
        | inl one ↦ inr (t.sci, reached_by past an t under (omega arith))
        | inr s ↦ inr (s.0, kept_at past an t s.0 s.1 h)
      ]
    ])
    (λ other.
    let same : greatest (next_numbers (t ∷ past) an) ≡ greatest (next_numbers past an) =
    top-more past t an ∙ ap (λ (b : Bool). cond b (max (t.pn + 1) (greatest (next_numbers past an))) (greatest (next_numbers past an))) other in
    elim (reached past an) [
      | inl one ↦ inl (same ∙ one)
      | inr s ↦ inr (
        s.0,
        next-more past t an s.0
            ∙ (λ i. cond (other i && same_sci t.sci s.0) (max (t.pn + 1) (next_number past an s.0)) (next_number past an s.0))
            ∙ s.1 ∙ sym same,
      )
    ])

pub some_senders : (window : ℕ) (an : AssociationNumber) (past : List Taken) → (lowest window past an ≡ 1)
    ⊎ ((sci : Sci) × (lowest window past an ≡ lowest_for window (next_number past an sci)))
some_senders window an past =
    elim (reached past an) [
      | inl one ↦ inl (omega (arith, lowest_is window an past, one))
      | inr s ↦ inr (s.0, lowest_is window an past ∙ ap (lowest_for window) (sym s.1))
    ]
