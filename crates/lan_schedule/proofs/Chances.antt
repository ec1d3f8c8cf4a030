-- What chance decides of an event is what the words gave it.
use Rattle.std.proofs.Common.{◌≡◌, ◌≤◌, inl, inr, ℕ, zero, suc, Bool, true, false, List, [], ◌∷◌}
use Rattle.std.proofs.Common.{◌++◌, drop, refl, sym, ap, ◌∙◌, arith}
use Rattle.std.specs.Prelude.{cond, nat_le, ◌&&◌}
use Rattle.lan_core.specs.declared.event.Event.{Event}
use Rattle.lan_core.specs.declared.event.Event.TheVariants as events
use Rattle.lan_core.specs.declared.fact.Fact.{Fact}
use Rattle.lan_core.specs.Expected.{last_number}
use Rattle.lan_schedule.specs.Races.{Chance, Shown, number_in, behind_numbers}
use Rattle.lan_schedule.specs.World.{World, settings}
use Rattle.lan_schedule.specs.Numbers.{shown_next, in_range, number_shown, number_claimed, stands}
use Rattle.lan_schedule.specs.Numbers.{takes_chance, number_of_event, decided}
use Rattle.lan_schedule.specs.Acts.{world_after}
use Rattle.lan_schedule.specs.inside.Set.{IsGiven, IsClaimNumber}
use Rattle.lan_schedule.proofs.Tidying.{in-range}

-- ---- what an event uses

-- what chance decides, where it decides something or nothing
abbrev pub chance_if : Bool → ℕ → List Chance
chance_if b n = cond b (Shown n ∷ []) []

used : (b : Bool) (n : ℕ) (chances later : List Chance) → chances ≡ chance_if b n ++ later
    → cond b (drop 1 chances) chances ≡ later
used true n chances later is = ap (λ (c : List Chance). drop 1 c) is
used false n chances later is = is

-- behind what is decided of an event comes what was left
pub chances-used : (w : World) (event : Event) (facts : List Fact) (later : List Chance)
    → w.kept.chances ≡ decided w.kept.raced event ++ later
    → (world_after w event facts).kept.chances ≡ later
chances-used w event facts later is =
    used (takes_chance w.kept.raced event) (number_of_event event) w.kept.chances later is

behind-one : (b : Bool) (n : ℕ) (later : List Chance)
    → behind_numbers (chance_if b n ++ later) ≡ behind_numbers later
behind-one true n later = refl
behind-one false n later = refl

pub behind-decided : (raced : Bool) (event : Event) (later : List Chance)
    → behind_numbers (decided raced event ++ later) ≡ behind_numbers later
behind-decided raced event later = behind-one (takes_chance raced event) (number_of_event event) later

-- ---- numbers

-- whether a number stands that is at least 1
number-stands : (next n : ℕ) → 1 ≤ next → next ≤ n → stands true next n ≡ true
number-stands next n one low = grind arith

none-stands : (next n : ℕ) → next ≡ 0 → stands true next n ≡ false
none-stands next n none = rw none refl

shown-by : (b : Bool) (next n : ℕ) (later : List Chance) → nat_le 1 n ≡ b → IsGiven true next n
    → let number = number_in (chance_if b n ++ later) in
    n ≡ cond (stands true next number) number next
shown-by true next n later is given =
    let some : 1 ≤ n = grind arith in
    let one : 1 ≤ next = is-some next n some given.1 in
    sym (ap (λ (b : Bool). cond b n next) (number-stands next n one given.0))
  where
    is-some : (next n : ℕ) → 1 ≤ n → (next ≡ 0 → n ≡ 0) → 1 ≤ next
    is-some zero n some none = let no : n ≡ 0 = none refl in absurd (omega (arith, some, no))
    is-some (suc k) n some none = omega arith
shown-by false next n later is given =
    let none : n ≡ 0 = grind arith in
    let low = given.0 in
    let empty : next ≡ 0 = omega (arith, none, low) in
    none ∙ sym empty
    ∙ sym (ap (λ (b : Bool). cond b (number_in later) next) (none-stands next (number_in later) empty))

given-shown : (raced : Bool) (next n : ℕ) (later : List Chance) → IsGiven raced next n
    → let number = number_in (chance_if (raced && nat_le 1 n) n ++ later) in
    n ≡ cond (stands raced next number) number next
given-shown false next n later given = given
given-shown true next n later given = shown-by (nat_le 1 n) next n later refl given

-- the number that the words gave to a tick is what it shows
pub shown-is : (w : World) (s n : ℕ) (later : List Chance)
    → w.kept.chances ≡ decided w.kept.raced (events.Tick s n) ++ later
    → IsGiven w.kept.raced (shown_next (settings w) s w.run) n → n ≡ number_shown w s
shown-is w s n later is given =
    let next = shown_next (settings w) s w.run in
    given-shown w.kept.raced next n later given
    ∙ ap (λ (c : List Chance).
    cond (stands w.kept.raced next (number_in c)) (number_in c) next) (sym is)

within-range : (next n : ℕ) → 1 ≤ next → next ≤ n → n ≤ last_number
    → (stands true next n && nat_le n last_number) ≡ true
within-range next n one low most = grind arith

none-within : (next n : ℕ) → next ≡ 0 → (stands true next n && nat_le n last_number) ≡ false
none-within next n none = rw none refl

claimed-by : (b : Bool) (next n : ℕ) (later : List Chance) → nat_le 1 n ≡ b → IsClaimNumber true next n
    → let number = number_in (chance_if b n ++ later) in
    n ≡ cond (stands true next number && nat_le number last_number) number (in_range next)
claimed-by true next n later is (inl taken) =
    sym (ap (λ (b : Bool). cond b n (in_range next)) (within-range next n taken.0 taken.1 taken.2))
claimed-by true next n later is (inr none) =
    absurd (let some : 1 ≤ n = grind arith in let no = none.1 in omega (arith, some, no))
claimed-by false next n later is (inl taken) =
    absurd (let no : n ≡ 0 = grind arith in let one = taken.0 in let low = taken.1 in
    omega (arith, no, one, low))
claimed-by false next n later is (inr none) =
    none.1 ∙ sym (ap (λ (b : Bool). cond b (number_in later) (in_range next))
    (none-within next (number_in later) none.0) ∙ ap (λ (k : ℕ). in_range k) none.0)

taken-claimed : (raced : Bool) (next n : ℕ) (later : List Chance) → IsClaimNumber raced next n
    → let number = number_in (chance_if (raced && nat_le 1 n) n ++ later) in
    n ≡ cond (stands raced next number && nat_le number last_number) number (in_range next)
taken-claimed false next n later taken = taken.0 ∙ sym (in-range next taken.1)
taken-claimed true next n later taken = claimed-by (nat_le 1 n) next n later refl taken

-- the number that the words gave to a claim is what is claimed
pub claimed-is : (w : World) (s user n : ℕ) (later : List Chance)
    → w.kept.chances ≡ decided w.kept.raced (events.Claim s user n) ++ later
    → IsClaimNumber w.kept.raced (shown_next (settings w) s w.run) n → n ≡ number_claimed w s
claimed-is w s user n later is taken =
    let next = shown_next (settings w) s w.run in
    taken-claimed w.kept.raced next n later taken
    ∙ ap (λ (c : List Chance).
    cond (stands w.kept.raced next (number_in c) && nat_le (number_in c) last_number) (number_in c)
    (in_range next)) (sym is)
