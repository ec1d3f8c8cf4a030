-- What a read gave is held.
use Rattle.std.proofs.Common.{◌≡◌, ℕ, ◌≤◌, Bool, List, [], ◌++◌, length, take, Option, Some, None, Result, sym, ap, ◌∙◌, subst, arith}
use Rattle.std.proofs.lemmas.List.{length-take-le, take-append-le}
use Rattle.lan_base.specs.declared.source.ReadEnd.{ReadEnd}
use Rattle.lan_base.specs.Told.{before, IsUsedUp}
use Rattle.octet_supply.specs.Supplying.{FillsMore, Held, Stands}

-- what a source has left, behind what it gave
given-behind : (limit : ℕ) (text given octets : List ℕ) (old new : Held) (left left_then : Option (List ℕ))
    (r : Result Bool ReadEnd) → left ≡ before octets left_then → (octets ≡ [] → IsUsedUp left)
    → ((rest : List ℕ) → Stands limit text given old (Some (octets ++ rest)) → (octets ≡ [] → rest ≡ [])
    → FillsMore limit text given old.octets new (Some rest) r)
    → Stands limit text given old left → FillsMore limit text given old.octets new left_then r
given-behind limit text given octets old new left None r moved end fills s =
    absurd (let bad : Some s.rest ≡ None = sym s.told ∙ moved in cc)
given-behind limit text given octets old new left (Some rest) r moved end fills s =
    fills rest (subst (λ (o : Option (List ℕ)). Stands limit text given old o) moved s) (λ none.
    sym (ap (λ (l : List ℕ). l ++ rest) none)
    ∙ subst (λ (o : Option (List ℕ)). IsUsedUp o) moved (end none))

-- of a buffer whose front was read into
pub fills-read : (limit : ℕ) (text given : List ℕ) (count : ℕ) (into tail : List ℕ) (old new : Held)
    (left left_then : Option (List ℕ)) (r : Result Bool ReadEnd) → count ≤ length into
    → left ≡ before (take count into) left_then → (count ≡ 0 → IsUsedUp left)
    → ((rest : List ℕ) → Stands limit text given old (Some (take count (into ++ tail) ++ rest))
    → (take count (into ++ tail) ≡ [] → rest ≡ []) → FillsMore limit text given old.octets new (Some rest) r)
    → Stands limit text given old left → FillsMore limit text given old.octets new left_then r
fills-read limit text given count into tail old new left left_then r fits moved end fills s =
    let same = take-append-le count into tail fits in
    let long = length-take-le count into fits in
    given-behind limit text given (take count (into ++ tail)) old new left left_then r
    (moved ∙ ap (λ (l : List ℕ). before l left_then) (sym same))
    (λ none. let short = ap length (sym same ∙ none) in end (omega (arith, long, short)))
    fills s
