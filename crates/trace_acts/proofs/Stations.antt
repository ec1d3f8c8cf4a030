-- A station that starts, and those that are there.
use Rattle.std.proofs.Common.{◌≡◌, ◌≢◌, ℕ, Bool, true, false, List, [], ◌∷◌, refl, sym, ap}
use Rattle.std.proofs.Common.{◌∙◌, arith}
use Rattle.std.specs.Prelude.{map, ◌||◌, nat_eq, All}
use Rattle.std.specs.Cmp.Lexicographic.{pointwise}
use Rattle.std.proofs.lemmas.List.Elements.{All-cons}
use Rattle.std.proofs.lemmas.Simd.{map-map}
use Rattle.lan_base.specs.declared.address.Sci.{Sci}
use Rattle.lan_core.specs.Run.{Profile}
use Rattle.trace_acts.specs.Names.{is_in}

pub map-map-scis : (ps : List Profile)
    → map (λ (s : Sci). s.0) (map (λ (p : Profile). p.sci) ps) ≡ map (λ (p : Profile). p.sci.0) ps
map-map-scis ps = map-map (λ (s : Sci). s.0) (λ (p : Profile). p.sci) ps

or-false : (a b : Bool) → (a || b) ≡ false → (a ≡ false) × (b ≡ false)
or-false true b e = absurd (cc e)
or-false false b e = (refl, e)

same-octets : (xs : List ℕ) → pointwise nat_eq xs xs ≡ true
same-octets [] = refl
same-octets (x ∷ xs) = let e : nat_eq x x ≡ true = grind arith in rw e (same-octets xs)

other-name : (name other : List ℕ) → pointwise nat_eq name other ≡ false → other ≢ name
other-name name other never e = let bad : true ≡ false = sym (same-octets name)
    ∙ ap (λ (xs : List ℕ). pointwise nat_eq name xs) (sym e) ∙ never in cc bad

other-sci : (sci : List ℕ) (other : Sci) → pointwise nat_eq sci other.0 ≡ false
    → other ≢ (record { 0 = sci })
other-sci sci other never e = let bad : true ≡ false = sym (same-octets sci)
    ∙ ap (λ (s : Sci). pointwise nat_eq sci s.0) (sym e) ∙ never in cc bad

-- no station has a name or an SCI that is not taken
pub new-station : (name sci : List ℕ) (ps : List Profile)
    → is_in name (map (λ (p : Profile). p.name) ps) ≡ false
    → is_in sci (map (λ (p : Profile). p.sci.0) ps) ≡ false
    → All (λ (p : Profile). (p.name ≢ name) × (p.sci ≢ (record { 0 = sci }))) ps
new-station name sci [] no_name no_sci = λ k d lt. absurd (omega arith)
new-station name sci (p ∷ ps) no_name no_sci =
    All-cons (λ (q : Profile). (q.name ≢ name) × (q.sci ≢ (record { 0 = sci }))) p ps (
      other-name name p.name (or-false (pointwise nat_eq name p.name) _ no_name).0,
      other-sci sci p.sci (or-false (pointwise nat_eq sci p.sci.0) _ no_sci).0,
    )
    (new-station name sci ps (or-false (pointwise nat_eq name p.name) _ no_name).1
    (or-false (pointwise nat_eq sci p.sci.0) _ no_sci).1)
