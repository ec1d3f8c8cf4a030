-- The orders of the maps tie just those that are the same.
use Rattle.std.proofs.Common.{◌≡◌, ◌≢◌, ◌∙◌, ℕ, Bool, true, false, List, refl, sym, ap}
use Rattle.std.specs.Prelude.{◌==◌, ◌&&◌}
use Rattle.std.specs.BTreeMap.{is_at}
use Rattle.std.specs.Cmp.{nat_cmp_is}
use Rattle.std.specs.Cmp.Lexicographic.{slice_cmp, texts_ties}
use Rattle.std.specs.Ordering.{nat_cmp, is_eq, ordering_then}
use Rattle.std.specs.declared.cmp.Ordering.{Ordering}
use Rattle.std.specs.declared.cmp.Ordering.TheVariants.{Less, Equal, Greater}
use Rattle.std.proofs.lemmas.Bool.{eqb-true, eq-eqb, and_parts}
use Rattle.std.proofs.lemmas.Map.Lookups.{exact_bytes, exact_unsigned}
use lib.Pointwise.{pointwise}
use Rattle.lan_base.specs.declared.address.Mi.{Mi}
use Rattle.lan_base.specs.declared.address.Sci.{Sci}
use Rattle.lan_base.specs.declared.key_id.KeyId.{KeyId}
use Rattle.lan_base.specs.Identifiers.{same_mi, same_sci}
use Rattle.std.specs.Prelude.{nat_eq}
use Rattle.xpn_numbers.specs.History.{same_id}
use Rattle.xpn_numbers.specs.Standing.{group_id, group_id_cmp, id_cmp, use_cmp}

equal : (o : Ordering) → is_eq o ≡ true → o ≡ Equal
equal Less e = absurd (cc e)
equal Equal e = refl
equal Greater e = absurd (cc e)

same-bool : (b c : Bool) → (b ≡ true → c ≡ true) → (c ≡ true → b ≡ true) → b ≡ c
same-bool true true f g = refl
same-bool true false f g = sym (f refl)
same-bool false true f g = g refl
same-bool false false f g = refl

then-ties : (o p : Ordering) (b c : Bool) → is_eq o ≡ b → is_eq p ≡ c → is_eq (ordering_then o p) ≡ (b && c)
then-ties o p b c e f = go o ∙ ap (λ x. x && is_eq p) e ∙ ap (λ x. b && x) f
  where
    go : (o : Ordering) → is_eq (ordering_then o p) ≡ (is_eq o && is_eq p)
    go Less = refl
    go Equal = refl
    go Greater = refl

nat-ties : (m n : ℕ) → is_eq (nat_cmp m n) ≡ (m == n)
nat-ties m n =
    same-bool (is_eq (nat_cmp m n)) (m == n)
    (λ e. eq-eqb m n (exact_unsigned m n (equal (nat_cmp m n) e)))
    (λ e. ap is_eq (sym (nat_cmp_is m n Equal (eqb-true m n e))))

-- a key and a sender
pub use-ties : (k key : ℕ) (s sci : Sci) → is_at (use_cmp (k, s)) (key, sci) ≡ ((k == key) && same_sci s sci)
use-ties k key s sci =
    then-ties (nat_cmp k key) (slice_cmp nat_cmp s.0 sci.0) (k == key) (same_sci s sci) (nat-ties k key)
    (sym (texts_ties s.0 sci.0))

-- an identifier in a group
pub id-ties : (g group : ℕ) (i id : KeyId)
    → is_at (group_id_cmp (group_id g i)) (group_id group id) ≡ ((g == group) && same_id i id)
id-ties g group i id =
    then-ties (nat_cmp g group) (id_cmp (i.server, i.number) (id.server, id.number)) (g == group) (same_id i id)
    (nat-ties g group)
    (then-ties (slice_cmp nat_cmp i.server.0 id.server.0) (nat_cmp i.number id.number) (same_mi i.server id.server)
    (i.number == id.number) (sym (texts_ties i.server.0 id.server.0)) (nat-ties i.number id.number))

-- what is the same is equal
same-octets : (a b : List ℕ) → pointwise nat_eq a b ≡ true → a ≡ b
same-octets a b e = exact_bytes a b (equal (slice_cmp nat_cmp a b) (sym (texts_ties a b) ∙ e))

pub same-use : (k key : ℕ) (s sci : Sci) → ((k == key) && same_sci s sci) ≡ true → ◌≡◌ {A = ℕ × Sci} (k, s) (key, sci)
same-use k key s sci e =
    let p = and_parts (k == key) (same_sci s sci) e in
    let octets : s.0 ≡ sci.0 = same-octets s.0 sci.0 p.1 in
    let number : k ≡ key = eqb-true k key p.0 in
    let sender : Sci → Sci = λ x. x in
    λ t. (number t, sender (record { 0 = octets t }))

pub same-group-id : (g group : ℕ) (i id : KeyId) → ((g == group) && same_id i id) ≡ true → ◌≡◌ {A = ℕ × KeyId} (g, i) (group, id)
same-group-id g group i id e =
    let p = and_parts (g == group) (same_id i id) e in
    let q = and_parts (same_mi i.server id.server) (i.number == id.number) p.1 in
    let octets : i.server.0 ≡ id.server.0 = same-octets i.server.0 id.server.0 q.0 in
    let number : i.number ≡ id.number = eqb-true i.number id.number q.1 in
    let in_group : g ≡ group = eqb-true g group p.0 in
    let server : Mi → Mi = λ x. x in
    let made : KeyId → KeyId = λ x. x in
    λ t. (in_group t, made (record { server = server (record { 0 = octets t }); number = number t }))
