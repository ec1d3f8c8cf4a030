-- Identifiers are the same exactly where they are equal, and member identifiers stand in a total order.
use Rattle.std.proofs.Common.{◌≡◌, ℕ, Bool, true, false, List, refl, ap}
use Rattle.std.proofs.lemmas.Cmp.{nat_list_cmp_total}
use Rattle.std.proofs.lemmas.Map.Lookups.{exact_bytes}
use Rattle.std.specs.Ordering.{ordering_reverse}
use Rattle.std.specs.Cmp.{tied_itself}
use Rattle.std.specs.declared.cmp.Ordering.{Ordering}
use Rattle.std.specs.declared.cmp.Ordering.TheVariants.{Less, Equal, Greater}
use Rattle.lan_base.specs.declared.address.Mi.{Mi}
use Rattle.lan_base.specs.declared.address.Sci.{Sci}
use Rattle.lan_base.specs.Identifiers.{same_mi, same_sci, order}
use lib.Pointwise.{bytes_decides}

-- a test is true or false
pub by_test : {P : Type 0} (b : Bool) → (b ≡ true → P) → (b ≡ false → P) → P
by_test true f g = f refl
by_test false f g = g refl

-- an answer of a comparison is one of three
pub by_order : {P : Type 0} (o : Ordering) → (o ≡ Less → P) → (o ≡ Equal → P) → (o ≡ Greater → P) → P
by_order Less f g h = f refl
by_order Equal f g h = g refl
by_order Greater f g h = h refl

pub same_mi-equal : (m n : Mi) → same_mi m n ≡ true → m ≡ n
same_mi-equal m n h = let e : m.0 ≡ n.0 = (bytes_decides m.0 n.0).0 h in let of : List ℕ → Mi = λ xs. record { 0 = xs } in ap of e

pub same_mi-itself : (m : Mi) → same_mi m m ≡ true
same_mi-itself m = (bytes_decides m.0 m.0).1 refl

pub same_sci-equal : (s t : Sci) → same_sci s t ≡ true → s ≡ t
same_sci-equal s t h = let e : s.0 ≡ t.0 = (bytes_decides s.0 t.0).0 h in let of : List ℕ → Sci = λ xs. record { 0 = xs } in ap of e

pub same_sci-itself : (s : Sci) → same_sci s s ≡ true
same_sci-itself s = (bytes_decides s.0 s.0).1 refl

pub order-equal : (m n : Mi) → order m n ≡ Equal → m ≡ n
order-equal m n h = let e : m.0 ≡ n.0 = exact_bytes m.0 n.0 h in let of : List ℕ → Mi = λ xs. record { 0 = xs } in ap of e

pub order-itself : (m : Mi) → order m m ≡ Equal
order-itself m = tied_itself nat_list_cmp_total m.0

pub order-reverse : (m n : Mi) → order m n ≡ ordering_reverse (order n m)
order-reverse m n = nat_list_cmp_total.antisymm m.0 n.0

pub order-trans : (m n o : Mi) → order m n ≡ Less → order n o ≡ Less → order m o ≡ Less
order-trans m n o h k = nat_list_cmp_total.trans m.0 n.0 o.0 h k
