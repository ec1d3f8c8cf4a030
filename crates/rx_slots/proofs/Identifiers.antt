-- SCIs are the same exactly where they are equal, and where the order finds them equal.
use Rattle.std.proofs.Common.{◌≡◌, ℕ, Bool, true, false, List, refl, sym, ap, ◌∙◌}
use Rattle.std.proofs.lemmas.Cmp.{nat_list_cmp_total}
use Rattle.std.proofs.lemmas.Map.Lookups.{exact_bytes}
use Rattle.std.specs.Cmp.{tied_itself}
use Rattle.std.specs.BTreeMap.{is_at}
use Rattle.std.specs.Ordering.{is_eq}
use Rattle.std.specs.declared.cmp.Ordering.{Ordering}
use Rattle.std.specs.declared.cmp.Ordering.TheVariants.{Less, Equal, Greater}
use Rattle.lan_base.specs.declared.address.Sci.{Sci}
use Rattle.lan_base.specs.Identifiers.{same_sci}
use Rattle.rx_slots.specs.Slots.{order}
use lib.Pointwise.{bytes_decides}

pub by_test : {P : Type 0} (b : Bool) → (b ≡ true → P) → (b ≡ false → P) → P
by_test true f g = f refl
by_test false f g = g refl

pub same_sci-equal : (s t : Sci) → same_sci s t ≡ true → s ≡ t
same_sci-equal s t h = let e : s.0 ≡ t.0 = (bytes_decides s.0 t.0).0 h in let of : List ℕ → Sci = λ xs. record { 0 = xs } in ap of e

pub same_sci-itself : (s : Sci) → same_sci s s ≡ true
same_sci-itself s = (bytes_decides s.0 s.0).1 refl

is_eq-Equal : (o : Ordering) → is_eq o ≡ true → o ≡ Equal
is_eq-Equal Equal h = refl
is_eq-Equal Less h = absurd (cc)
is_eq-Equal Greater h = absurd (cc)

at-equal : (s t : Sci) → is_at (order s) t ≡ true → s ≡ t
at-equal s t h =
    let e : s.0 ≡ t.0 = exact_bytes s.0 t.0 (is_eq-Equal (order s t) h) in
    let of : List ℕ → Sci = λ xs. record { 0 = xs } in ap of e

at-itself : (s : Sci) → is_at (order s) s ≡ true
at-itself s = ap is_eq (tied_itself nat_list_cmp_total s.0)

equal-at : (s t : Sci) → s ≡ t → is_at (order s) t ≡ true
equal-at s t e = ap (λ (x : Sci). is_at (order s) x) (sym e) ∙ at-itself s

equal-same : (s t : Sci) → s ≡ t → same_sci s t ≡ true
equal-same s t e = ap (λ (x : Sci). same_sci s x) (sym e) ∙ same_sci-itself s

-- the order finds an SCI exactly where it has the same octets
pub at-same : (s t : Sci) → is_at (order s) t ≡ same_sci s t
at-same s t =
    by_test (is_at (order s) t)
    (λ h. h ∙ sym (equal-same s t (at-equal s t h)))
    (λ h. by_test (same_sci s t)
    (λ k. absurd (no (h) (equal-at s t (same_sci-equal s t k))))
    (λ k. h ∙ sym k))
  where
    no : {b : Bool} → b ≡ false → b ≡ true → ⊥
    no h k = cc
