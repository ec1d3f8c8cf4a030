-- The limits that a run passes.
use Rattle.std.proofs.Common.{◌≡◌, ◌≢◌, ◌<◌, ◌≤◌, ℕ, Bool, true, false, cond, List, [], ◌∷◌, length, map, Option, Some, None, refl, sym, subst, arith}
use Rattle.std.specs.Prelude.{◌==◌, ◌&&◌, ◌||◌, nat_lt, option_map, sum}
use Rattle.std.specs.List.{list_any}
use Rattle.std.proofs.lemmas.Bool.{eqb-true, eqb-false, lt-ltb, ltb-true, le-ltb, ltb-false}
use Rattle.lan_core.specs.declared.stop.Stop.TheVariants.{Limit}
use Rattle.lan_core.specs.declared.stop.Which.{Which}
use Rattle.lan_core.specs.declared.stop.Which.TheVariants.{Frames, Octets}
use Rattle.lan_core.specs.Run.{Run, stations}
use Rattle.lan_core.specs.Ledgers.{air, Install, installs}
use Rattle.lan_base.specs.Ranges.{most_ticks, most_frames}
use Rattle.lan_core.specs.Order.{IsWithin, ticks, most_stations, most_octets, most_installs}
use Rattle.lan_core.specs.Stops.{passed, is_over_installs}
use Rattle.lan_core.specs.inside.Limits.{IsLight, passed_by, passed_with}
use Rattle.lan_core.proofs.OwnLedgers.{installs_of}

-- whether the station of an install has too many
abbrev is_over : List Install → Install → Bool
is_over all i = nat_lt most_installs (length (installs_of i.station all))

-- ---- one station may be over

or_and : (b c : Bool) → (b || (b && c)) ≡ (b && true)
or_and true c = refl
or_and false c = refl

and_false : (b : Bool) → false ≡ (b && false)
and_false true = refl
and_false false = refl

any_over : (all : List Install) (s : ℕ)
    → ((t : ℕ) → t ≢ s → length (installs_of t all) ≤ most_installs) → (is : List Install)
    → list_any (is_over all) is
    ≡ (nat_lt most_installs (length (installs_of s all)) && nat_lt 0 (length (installs_of s is)))
any_over all s ok [] = and_false (nat_lt most_installs (length (installs_of s all)))
any_over all s ok (i ∷ is) = go (i.station == s) refl (any_over all s ok is)
  where
    go : (b : Bool) → (i.station == s) ≡ b
        → list_any (is_over all) is
        ≡ (nat_lt most_installs (length (installs_of s all)) && nat_lt 0 (length (installs_of s is)))
        → (is_over all i || list_any (is_over all) is)
        ≡ (nat_lt most_installs (length (installs_of s all))
        && nat_lt 0 (length (cond b (i ∷ installs_of s is) (installs_of s is))))
    go true same later =
        let here : i.station ≡ s = eqb-true i.station s same in
        let counts : is_over all i ≡ nat_lt most_installs (length (installs_of s all)) =
        subst (λ t. nat_lt most_installs (length (installs_of t all)) ≡ nat_lt most_installs (length (installs_of s all)))
        (sym here) refl in
        let some : nat_lt 0 (length (i ∷ installs_of s is)) ≡ true = grind arith in
        rw (counts, later, some) (or_and (nat_lt most_installs (length (installs_of s all))) (nat_lt 0 (length (installs_of s is))))
    go false differ later =
        let few = ok i.station (λ here. eqb-false i.station s differ here) in
        let not : is_over all i ≡ false = le-ltb most_installs _ few in
        rw (not, later) refl

some_over : (count : ℕ) → (nat_lt most_installs count && nat_lt 0 count) ≡ nat_lt most_installs count
some_over count = go (nat_lt most_installs count) refl
  where
    go : (b : Bool) → nat_lt most_installs count ≡ b → (b && nat_lt 0 count) ≡ b
    go true over =
        let many = ltb-true most_installs count over in lt-ltb 0 count (omega (arith, many))
    go false few = refl

pub over-at : (all : List Install) (s : ℕ)
    → ((t : ℕ) → t ≢ s → length (installs_of t all) ≤ most_installs)
    → list_any (is_over all) all ≡ nat_lt most_installs (length (installs_of s all))
over-at all s ok = rw (any_over all s ok all) (some_over (length (installs_of s all)))

-- none is over
pub none-over : (all : List Install) → ((t : ℕ) → length (installs_of t all) ≤ most_installs)
    → list_any (is_over all) all ≡ false
none-over all few = rw (over-at all 0 (λ t other. few t)) (le-ltb most_installs _ (few 0))

or_true : (b : Bool) → (b || true) ≡ true
or_true true = refl
or_true false = refl

any_has : (all : List Install) (s : ℕ) → nat_lt most_installs (length (installs_of s all)) ≡ true
    → (is : List Install) → 1 ≤ length (installs_of s is) → list_any (is_over all) is ≡ true
any_has all s over [] some = absurd (omega (arith, some))
any_has all s over (i ∷ is) some = go (i.station == s) refl some (any_has all s over is)
  where
    go : (b : Bool) → (i.station == s) ≡ b → 1 ≤ length (cond b (i ∷ installs_of s is) (installs_of s is))
        → (1 ≤ length (installs_of s is) → list_any (is_over all) is ≡ true)
        → (is_over all i || list_any (is_over all) is) ≡ true
    go true same one later =
        let here : i.station ≡ s = eqb-true i.station s same in
        let counts : is_over all i ≡ true =
        subst (λ t. nat_lt most_installs (length (installs_of t all)) ≡ true) (sym here) over in
        rw counts refl
    go false differ more later = rw (later more) (or_true (is_over all i))

few-of-each : (all : List Install) → list_any (is_over all) all ≡ false → (s : ℕ)
    → length (installs_of s all) ≤ most_installs
few-of-each all none s = go (nat_lt most_installs (length (installs_of s all))) refl
  where
    go : (b : Bool) → nat_lt most_installs (length (installs_of s all)) ≡ b
        → length (installs_of s all) ≤ most_installs
    go true over =
        let many : most_installs < length (installs_of s all) = ltb-true most_installs _ over in
        absurd (cc (none, any_has all s over all (omega (arith, many))))
    go false few = ltb-false most_installs _ few

-- ---- runs

pub passed-is : (q : Run) (frames octets past count seen : ℕ) → length (air q) ≡ frames
    → sum (map (λ frame. length frame.octets) (air q)) ≡ octets → ticks q ≡ past
    → is_over_installs q ≡ nat_lt most_installs count → length (stations q) ≡ seen
    → passed q ≡ passed_by frames octets past count seen
passed-is q frames octets past count seen a b c d e = rw (a, b, c, d, e) refl

not_first : (b : Bool) (which : Which) (later : Option Which) → cond b (Some which) later ≡ None
    → (b ≡ false) × (later ≡ None)
not_first true which later none = absurd (cc none)
not_first false which later none = (refl, none)

at_most : (most n : ℕ) → nat_lt most n ≡ false → n ≤ most
at_most most n not = ltb-false most n not

-- no limit is passed where none stops a group
pub none-passed : (q : Run) (o : Option Which) → passed q ≡ o → option_map Limit o ≡ None
    → passed q ≡ None
none-passed q None is none = is
none-passed q (Some which) is none = absurd (cc none)

pub within-where : (q : Run) → passed q ≡ None → IsWithin q
within-where q none =
    let frames = not_first (nat_lt most_frames (length (air q))) _ _ none in
    let octets = not_first (nat_lt most_octets (sum (map (λ frame. length frame.octets) (air q)))) _ _ frames.1 in
    let ticked = not_first (nat_lt most_ticks (ticks q)) _ _ octets.1 in
    let keys = not_first (is_over_installs q) _ _ ticked.1 in
    let stood = not_first (nat_lt most_stations (length (stations q))) _ _ keys.1 in
    record {
      frames = at_most _ _ frames.0;
      octets = at_most _ _ octets.0;
      ticks = at_most _ _ ticked.0;
      installs = few-of-each (installs q) keys.0;
      stations = at_most _ _ stood.0;
    }

-- no limit is passed by counts where none stops a group
none-of : (o : Option Which) → option_map Limit o ≡ None → o ≡ None
none-of None none = refl
none-of (Some which) none = absurd (cc none)

-- the air is light then, and the ticks are few
pub light-where : (frames : List (List ℕ)) (past count seen : ℕ)
    → option_map Limit (passed_with frames past count seen) ≡ None → IsLight frames
light-where frames past count seen none =
    let few = not_first (nat_lt most_frames (length frames)) Frames _ (none-of _ none) in
    let light = not_first (nat_lt most_octets (sum (map length frames))) Octets _ few.1 in
    record { few = at_most _ _ few.0; light = at_most _ _ light.0 }
