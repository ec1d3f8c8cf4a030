-- Member identifiers are the same exactly where they are equal, and exactly where a map has them at one place.
use Rattle.std.proofs.Common.{◌≡◌, ℕ, true, false, List, refl, ap}
use Rattle.std.proofs.lemmas.Cmp.{nat_list_cmp_total}
use Rattle.std.proofs.lemmas.Map.Lookups.{exact_bytes}
use Rattle.std.specs.BTreeMap.{is_at}
use Rattle.std.specs.Cmp.{tied_itself}
use Rattle.std.specs.declared.cmp.Ordering.{Ordering}
use Rattle.std.specs.declared.cmp.Ordering.TheVariants.{Less, Equal, Greater}
use Rattle.lan_base.specs.declared.address.Mi.{Mi}
use Rattle.lan_base.specs.Identifiers.{same_mi, order}
use Rattle.sak_exchange.proofs.Cases.{by_test}
use lib.Pointwise.{bytes_decides}

pub same-equal : (m n : Mi) → same_mi m n ≡ true → m ≡ n
same-equal m n is = let octets : m.0 ≡ n.0 = (bytes_decides m.0 n.0).0 is in ap (λ (xs : List ℕ). let i : Mi = record { 0 = xs } in i) octets

pub same-itself : (m : Mi) → same_mi m m ≡ true
same-itself m = (bytes_decides m.0 m.0).1 refl

order-equal : (m n : Mi) → order m n ≡ Equal → m ≡ n
order-equal m n is = let octets : m.0 ≡ n.0 = exact_bytes m.0 n.0 is in ap (λ (xs : List ℕ). let i : Mi = record { 0 = xs } in i) octets

order-itself : (m : Mi) → order m m ≡ Equal
order-itself m = tied_itself nat_list_cmp_total m.0

by_order : {P : Type 0} (o : Ordering) → (o ≡ Less → P) → (o ≡ Equal → P) → (o ≡ Greater → P) → P
by_order Less f g h = f refl
by_order Equal f g h = g refl
by_order Greater f g h = h refl

other-place : (m n : Mi) → same_mi m n ≡ false → order m n ≡ Equal → ⊥
other-place m n other is = let same = order-equal m n is in let never : same_mi m n ≡ true = rw same (same-itself n) in absurd (cc (other, never))

pub place-is : (m n : Mi) → is_at (order m) n ≡ same_mi m n
place-is m n =
    by_test (same_mi m n)
    (λ t. let same = same-equal m n t in rw same (rw (order-itself n, same-itself n) refl))
    (λ t. by_order (order m n) (λ o. rw (o, t) refl) (λ o. absurd (other-place m n t o)) (λ o. rw (o, t) refl))
