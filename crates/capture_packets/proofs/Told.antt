-- What octets tell, and what they tell behind a record or a block.
use Rattle.std.proofs.Common.{◌≡◌, ◌≢◌, ℕ, zero, suc, ◌+◌, ◌-◌, ◌<◌, ◌≤◌, List, [], ◌∷◌, length, Ok, Err, refl, sym, ap, ◌∙◌, arith}
use Rattle.capture_packets.specs.declared.fault.CaptureFault.{CaptureFault}
use Rattle.capture_packets.specs.Packets.{Context}
use Rattle.capture_packets.specs.Captures.{Step, Told, no_more, refused_at, step, told, told_by, with_first}
use Rattle.capture_packets.specs.Reading.{IsTold}

pub told-end : (known : Context) (at : ℕ) (octets : List ℕ) (t : Told) → IsTold known at octets t → octets ≡ []
    → t ≡ no_more
told-end known at octets t (zero, few, is) none = sym is
told-end known at octets t (suc n, few, is) none =
    sym is ∙ ap (λ (l : List ℕ). told (suc n) known at l) none

pub told-refused : (known : Context) (at : ℕ) (octets : List ℕ) (t : Told) (why : CaptureFault)
    → IsTold known at octets t → octets ≢ [] → step known octets ≡ Err why → t ≡ refused_at at why
told-refused known at [] t why is some s = absurd (some refl)
told-refused known at (o ∷ octets) t why (zero, few, is) some s = absurd (omega (arith, few))
told-refused known at (o ∷ octets) t why (suc n, few, is) some s =
    sym is ∙ ap (told_by (told n) at (length (o ∷ octets))) s

-- what is told behind a step
pub record ToldBehind (s : Step) (at : ℕ) (octets : List ℕ) (t : Told) : Type 0 where
  pub later : Told
  pub tells : IsTold s.known (at + (length octets - length s.rest)) s.rest later
  pub first : t ≡ with_first s.packet later

pub told-step : (known : Context) (at : ℕ) (octets : List ℕ) (t : Told) (s : Step)
    → IsTold known at octets t → octets ≢ [] → step known octets ≡ Ok s → length s.rest < length octets
    → ToldBehind s at octets t
told-step known at [] t s is some st less = absurd (some refl)
told-step known at (o ∷ octets) t s (zero, few, is) some st less = absurd (omega (arith, few))
told-step known at (o ∷ octets) t s (suc n, few, is) some st less = record {
  later = told n s.known (at + (length (o ∷ octets) - length s.rest)) s.rest;
  tells = (n, (omega (arith, few, less)), refl);
  first = sym is ∙ ap (told_by (told n) at (length (o ∷ octets))) st;
}

pub behind-some : (all : ℕ) (behind : List ℕ) → 8 ≤ all → all ≤ length behind → behind ≢ []
behind-some all behind some few none = let l = ap length none in omega (arith, l, some, few)
