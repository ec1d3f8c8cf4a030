-- Whether members are those of the rows that pass a test, row by row.
use lib.Pointwise.{pointwise}
use Rattle.std.proofs.Common.{◌≡◌, ◌∙◌, ◌<◌, ◌≤◌, ◌+◌, ℕ, Bool, true, false, List, [], ◌∷◌, map, drop, drop-cons, length, nat_eq, get_or, refl, sym, arith}
use Rattle.std.proofs.Math.Numerals.{add-one}
use Rattle.std.proofs.lemmas.List.{drop_all}
use Rattle.std.proofs.lemmas.Bool.{eqb-true, eqb-false}
use Rattle.std.specs.List.{filter}
use Rattle.sak_exchange.proofs.Public.{by_test}
use Rattle.lan_base.specs.declared.address.Mi.{Mi}
use Rattle.lan_base.specs.Identifiers.{same_mi}
use Rattle.peer_lists.specs.declared.heard.Row.{Row}

abbrev pub are_of : (Row → Bool) → List Row → List Mi → Bool
are_of test rows ms = pointwise same_mi (map (λ r. r.mi) (filter test rows)) ms

next : {X : Type 0} (xs : List X) (i : ℕ) (d : X) → i < length xs → drop i xs ≡ get_or xs i d ∷ drop (i + 1) xs
next xs i d l = rw add-one (drop-cons xs i d l)

pub rows-end : (test : Row → Bool) (rows : List Row) (i : ℕ) (ms : List Mi) (at : ℕ) → length rows ≤ i → length ms ≤ at → are_of test (drop i rows) (drop at ms) ≡ true
rows-end test rows i ms at l k = rw (drop_all i rows l, drop_all at ms k) refl

pub rows-left : (test : Row → Bool) (rows : List Row) (i : ℕ) (ms : List Mi) (at : ℕ) (e : Mi) → length rows ≤ i → at < length ms → are_of test (drop i rows) (drop at ms) ≡ false
rows-left test rows i ms at e l k = rw (drop_all i rows l, next ms at e k) refl

pub rows-done : (test : Row → Bool) (rows : List Row) (i : ℕ) (ms : List Mi) (at : ℕ) → length rows ≤ i → at ≤ length ms → nat_eq at (length ms) ≡ are_of test (drop i rows) (drop at ms)
rows-done test rows i ms at l k =
    by_test (nat_eq at (length ms))
    (λ e. let same = eqb-true at (length ms) e in e ∙ sym (rows-end test rows i ms at l (omega arith)))
    (λ e. let other = eqb-false at (length ms) e in e ∙ sym (rows-left test rows i ms at (record { 0 = [] }) l (omega arith)))
