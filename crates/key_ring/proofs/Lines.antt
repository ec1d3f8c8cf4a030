-- What lines of a key text say behind others.
use Rattle.std.proofs.Common.{◌≡◌, ℕ, suc, ◌+◌, ◌≤◌, List, ◌∷◌, [], ◌++◌, length, true, Ok, Err, Some, None, refl, ap, ◌∙◌, arith}
use Rattle.std.specs.Prelude.{nat_lt, Option, Result}
use Rattle.std.proofs.lemmas.Bool.Decides.{nat_tests}
use Rattle.trace_text.specs.declared.fault.TextFault.{TextFault}
use Rattle.trace_text.specs.declared.fault.TextFault.TheVariants.{TooLong}
use Rattle.trace_text.specs.Reading.{fault_in}
use Rattle.audit_text.specs.declared.line.KeyLine.{KeyLine}
use Rattle.audit_text.specs.Reading.{key_line_in}
use Rattle.key_ring.specs.Rings.{LineFault, Ring, ring_by, ring_from, with_line}

said-on : (n : ℕ) (a b : List (List ℕ)) (said : Result (Option KeyLine) TextFault) (ring behind : Ring)
    (after : Result Ring LineFault)
    → ((other : Ring) → ring_from (suc n) a other ≡ Ok behind → ring_from (suc n) (a ++ b) other ≡ after)
    → ring_by (ring_from (suc n) a) n ring said ≡ Ok behind
    → ring_by (ring_from (suc n) (a ++ b)) n ring said ≡ after
said-on n a b (Ok None) ring behind after on is = on ring is
said-on n a b (Ok (Some line)) ring behind after on is = on (with_line n line ring) is
said-on n a b (Err why) ring behind after on is = cc is

pub ring-append : (n : ℕ) (a b : List (List ℕ)) (ring behind : Ring) → ring_from n a ring ≡ Ok behind
    → ring_from n (a ++ b) ring ≡ ring_from (n + length a) b behind
ring-append n [] b ring behind is =
    let same : ring ≡ behind = cc is in
    let at : n ≡ n + 0 = omega arith in
    ap (ring_from n b) same ∙ ap (λ (m : ℕ). ring_from m b behind) at
ring-append n (x ∷ a) b ring behind is =
    said-on n a b (key_line_in x) ring behind (ring_from (n + length (x ∷ a)) b behind)
    (λ other on. let at : suc n + length a ≡ n + length (x ∷ a) = omega arith in
    ring-append (suc n) a b other behind on ∙ ap (λ (m : ℕ). ring_from m b behind) at) is

-- ---- a line's fault

pub refused-is : (said : Result (Option KeyLine) TextFault) (why : TextFault) → fault_in said ≡ Some why
    → said ≡ Err why
refused-is (Ok line) why is = cc is
refused-is (Err own) why is = ap (λ (w : TextFault). Err w) (cc is)

-- a line with more octets than it may have
pub too-long : (line : List ℕ) → 4097 ≤ length line → key_line_in line ≡ Err TooLong
unfolding key_line_in
too-long line long =
    let test : nat_lt 4096 (length line) ≡ true = grind (arith, nat_tests) in
    rw test refl

pub empty-line : key_line_in [] ≡ Ok None
unfolding key_line_in
empty-line = refl
