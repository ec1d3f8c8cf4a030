-- The numbers that were accepted under an association number, after an end of it and after one more.
use Rattle.std.proofs.Common.{◌≡◌, ◌+◌, Bool, true, false, not, ◌&&◌, cond, max, map, List, [], ◌∷◌, refl, sym, ap, ◌∙◌}
use Rattle.std.specs.List.{filter}
use Rattle.lan_base.specs.declared.association_number.AssociationNumber.{AssociationNumber}
use Rattle.lan_base.specs.AssociationNumbers.{same_an}
use Rattle.lan_base.specs.declared.address.Sci.{Sci}
use Rattle.lan_base.specs.Identifiers.{same_sci}
use Rattle.rx_slots.specs.Numbers.{Taken, is_under, is_of, greatest, next_number}
use Rattle.rx_slots.specs.Standing.{next_numbers}
use Rattle.rx_slots.proofs.Numbering.{same_an-equal, same_an-of}
use Rattle.rx_slots.proofs.Identifiers.{by_test}

filter-in : (p : Taken → Bool) (t : Taken) (ts : List Taken) → p t ≡ true → filter p (t ∷ ts) ≡ t ∷ filter p ts
filter-in p t ts h = ap (λ (b : Bool). cond b (t ∷ filter p ts) (filter p ts)) h

filter-out : (p : Taken → Bool) (t : Taken) (ts : List Taken) → p t ≡ false → filter p (t ∷ ts) ≡ filter p ts
filter-out p t ts h = ap (λ (b : Bool). cond b (t ∷ filter p ts) (filter p ts)) h

-- those of other association numbers
abbrev others : AssociationNumber → List Taken → List Taken
others an ts = filter (λ t. not (is_under an t)) ts

both_ways : {b : Bool} → b ≡ true → b ≡ false → ⊥
both_ways h k = cc

-- none of those that an end leaves is one of its association number
none_left : (an : AssociationNumber) (p : Taken → Bool) → ((t : Taken) → p t ≡ true → is_under an t ≡ true) → (ts : List Taken) → filter p (others an ts) ≡ []
none_left an p under [] = refl
none_left an p under (t ∷ ts) =
    by_test (is_under an t)
    (λ u. ap (filter p) (filter-out (λ t. not (is_under an t)) t ts (ap not u)) ∙ none_left an p under ts)
    (λ u. ap (filter p) (filter-in (λ t. not (is_under an t)) t ts (ap not u))
    ∙ by_test (p t)
    (λ k. absurd (both_ways (under t k) u))
    (λ k. filter-out p t (others an ts) k ∙ none_left an p under ts))

-- those of another one are all left
all_left : (an : AssociationNumber) (p : Taken → Bool) → ((t : Taken) → p t ≡ true → is_under an t ≡ false) → (ts : List Taken) → filter p (others an ts) ≡ filter p ts
all_left an p other [] = refl
all_left an p other (t ∷ ts) =
    by_test (is_under an t)
    (λ u. ap (filter p) (filter-out (λ t. not (is_under an t)) t ts (ap not u)) ∙ all_left an p other ts
    ∙ by_test (p t)
    (λ k. absurd (both_ways u (other t k)))
    (λ k. sym (filter-out p t ts k)))
    (λ u. ap (filter p) (filter-in (λ t. not (is_under an t)) t ts (ap not u))
    ∙ (λ i. cond (p t) (t ∷ all_left an p other ts i) (all_left an p other ts i)))

and_first : (a b : Bool) → (a && b) ≡ true → a ≡ true
and_first true b h = refl
and_first false b h = h

under-other : (an n : AssociationNumber) (t : Taken) → (same_an an n) ≡ false → is_under n t ≡ true → is_under an t ≡ false
under-other an n t h k =
    by_test (is_under an t)
    (λ u. absurd (both_ways (same_an-of an n (sym (same_an-equal t.an an u) ∙ same_an-equal t.an n k)) h))
    (λ u. u)

-- after an end of an association number: nothing under it, and all as before under another
pub next-ended : (past : List Taken) (an n : AssociationNumber) (sci : Sci) → next_number (others an past) n sci ≡ cond (same_an an n) 1 (next_number past n sci)
next-ended past an n sci =
    by_test (same_an an n)
    (λ h. ap (λ (ts : List Taken). greatest (map (λ t. t.pn + 1) ts))
    (none_left an (is_of n sci) (λ t k. ap (same_an t.an) (same_an-equal an n h) ∙ and_first (is_under n t) (same_sci t.sci sci) k) past)
    ∙ sym (ap (λ (b : Bool). cond b 1 (next_number past n sci)) h))
    (λ h. ap (λ (ts : List Taken). greatest (map (λ t. t.pn + 1) ts))
    (all_left an (is_of n sci) (λ t k. under-other an n t h (and_first (is_under n t) (same_sci t.sci sci) k)) past)
    ∙ sym (ap (λ (b : Bool). cond b 1 (next_number past n sci)) h))

pub top-ended : (past : List Taken) (an n : AssociationNumber) → greatest (next_numbers (others an past) n) ≡ cond (same_an an n) 1 (greatest (next_numbers past n))
top-ended past an n =
    by_test (same_an an n)
    (λ h. ap (λ (ts : List Taken). greatest (map (λ t. t.pn + 1) ts))
    (none_left an (is_under n) (λ t k. ap (same_an t.an) (same_an-equal an n h) ∙ k) past)
    ∙ sym (ap (λ (b : Bool). cond b 1 (greatest (next_numbers past n))) h))
    (λ h. ap (λ (ts : List Taken). greatest (map (λ t. t.pn + 1) ts))
    (all_left an (is_under n) (λ t k. under-other an n t h k) past)
    ∙ sym (ap (λ (b : Bool). cond b 1 (greatest (next_numbers past n))) h))

-- after one more number
greatest-more : (p : Taken → Bool) (t : Taken) (ts : List Taken)
    → greatest (map (λ u. u.pn + 1) (filter p (t ∷ ts))) ≡ cond (p t) (max (t.pn + 1) (greatest (map (λ u. u.pn + 1) (filter p ts)))) (greatest (map (λ u. u.pn + 1) (filter p ts)))
greatest-more p t ts =
    by_test (p t)
    (λ h. ap (λ (us : List Taken). greatest (map (λ u. u.pn + 1) us)) (filter-in p t ts h)
    ∙ sym (ap (λ (b : Bool). cond b (max (t.pn + 1) (greatest (map (λ u. u.pn + 1) (filter p ts)))) (greatest (map (λ u. u.pn + 1) (filter p ts)))) h))
    (λ h. ap (λ (us : List Taken). greatest (map (λ u. u.pn + 1) us)) (filter-out p t ts h)
    ∙ sym (ap (λ (b : Bool). cond b (max (t.pn + 1) (greatest (map (λ u. u.pn + 1) (filter p ts)))) (greatest (map (λ u. u.pn + 1) (filter p ts)))) h))

pub next-more : (past : List Taken) (t : Taken) (n : AssociationNumber) (sci : Sci)
    → next_number (t ∷ past) n sci ≡ cond (is_of n sci t) (max (t.pn + 1) (next_number past n sci)) (next_number past n sci)
next-more past t n sci = greatest-more (is_of n sci) t past

pub top-more : (past : List Taken) (t : Taken) (n : AssociationNumber)
    → greatest (next_numbers (t ∷ past) n) ≡ cond (is_under n t) (max (t.pn + 1) (greatest (next_numbers past n))) (greatest (next_numbers past n))
top-more past t n = greatest-more (is_under n) t past
