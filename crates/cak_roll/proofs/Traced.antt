-- What a group drew is traced to the draws of both: its numbers stay right with an event more.
use Rattle.std.proofs.Common.{◌≡◌, ◌⊎◌, inl, inr, ◌+◌, ◌-◌, ◌≤◌, ◌++◌, ℕ, zero, suc, Bool, true, false, List, []}
use Rattle.std.proofs.Common.{◌∷◌, cond, length, replicate, length-append}
use Rattle.std.proofs.Common.{Option, Some, None, refl, sym, ap, ◌∙◌, arith}
use Rattle.std.specs.Prelude.{slice_get, is_some, option_map, option_and_then, unwrap_or}
use Rattle.std.specs.Option.{option_or}
use Rattle.std.proofs.lemmas.List.{length-replicate}
use Rattle.std.proofs.lemmas.Slice.Eq.{bytes_eq-Decides}
use Rattle.lan_base.specs.declared.address.Mi.{Mi}
use Rattle.lan_base.specs.declared.suite.Suite.{Suite}
use Rattle.lan_base.specs.declared.suite.Suite.TheVariants.{GcmAes128, GcmAes256}
use Rattle.lan_base.specs.Identifiers.{same_mi}
use Rattle.lan_base.specs.Suites.{sak_draws}
use Rattle.aes_block.specs.declared.secret.Secret.{Secret}
use Rattle.aes_block.specs.Secrets.{same_secret}
use Rattle.aes_block.proofs.Public.{same_secret-is}
use Rattle.lan_core.specs.declared.stop.Stop.TheVariants.{RepeatedDraw}
use Rattle.lan_core.specs.Run.{Run, Happening}
use Rattle.lan_core.specs.Lives.{drawn_mi}
use Rattle.lan_core.specs.Stops.{draws_in, draws_by, mi_number, sak_number, sak_of_tick, is_drawn}
use Rattle.lan_core.specs.Stops.{drawn_before, stop_of_draw}
use Rattle.cak_roll.specs.Standing.{AreTraced}
use Rattle.cak_roll.specs.inside.Noting.{number_over}
use Rattle.cak_roll.proofs.Adopted.{get-more}

-- ---- values that are the same

same-mi : (m n : Mi) → same_mi m n ≡ true → m ≡ n
same-mi m n same = ap mi_of ((bytes_eq-Decides m.0 n.0).0 same)
  where
    mi_of : List ℕ → Mi
    mi_of octets = record { 0 = octets }

-- ---- a value that repeats nothing

pub no-repeat : (n : ℕ) (o : Option ℕ) → option_map (λ first. RepeatedDraw first n) o ≡ None → o ≡ None
no-repeat n None none = refl
no-repeat n (Some first) none = absurd (cc none)

pub neither : {A : Type 0} (o p : Option A) → option_or o p ≡ None → (o ≡ None) × (p ≡ None)
neither None p none = (refl, none)
neither (Some a) p none = absurd (cc none)

-- what is found by a test of its own is another value than one that was found nowhere
apart : {A : Type 0} (same : A → A → Bool) → ((a b : A) → same a b ≡ true → a ≡ b)
    → (find : A → Option ℕ) (a : A) (o : Option A) (over : ℕ)
    → find a ≡ Some over → option_and_then find o ≡ None → is_drawn same a o ≡ false
apart same equal find a None over there none = refl
apart same equal find a (Some b) over there none = go (same a b) refl
  where
    go : (c : Bool) → same a b ≡ c → same a b ≡ false
    go false is = is
    go true is =
        let gone : find a ≡ None = ap find (equal a b is) ∙ none in absurd (cc (there, gone))

pub traced-none : (suite : Suite) (whole : Run) → AreTraced suite [] whole []
unfolding draws_in mi_number sak_number
traced-none suite whole = record {
  count = refl;
  mis = λ mi own none. absurd (cc none);
  saks = λ sak own none. absurd (cc none);
}

-- an event of the other group, which repeats nothing
pub traced-beside : (suite : Suite) (y : Happening) (r whole : Run) (draws : List ℕ)
    → stop_of_draw suite whole y ≡ None → AreTraced suite r whole draws
    → AreTraced suite r (y ∷ whole) draws
unfolding mi_number sak_number
traced-beside suite y r whole draws none traced =
    let before = no-repeat (draws_in suite whole + 1) (drawn_before suite whole y) none in
    let parts = neither (option_and_then (mi_number suite whole) (drawn_mi y.facts))
    (option_and_then (sak_number suite whole) (sak_of_tick y.facts y.event)) before in
    record {
      count = traced.count;
      mis = λ mi own is.
          let t = traced.mis mi own is in
          let other = apart same_mi same-mi (mi_number suite whole) mi (drawn_mi y.facts) t.0 t.2
          parts.0 in (
            t.0,
            t.1,
            ap (λ b. cond b (Some (draws_in suite whole + 1)) (mi_number suite whole mi)) other ∙ t.2,
          );
      saks = λ sak own is.
          let t = traced.saks sak own is in
          let other = apart same_secret same_secret-is (sak_number suite whole) sak
          (sak_of_tick y.facts y.event) t.0 t.2 parts.1 in (
            t.0,
            t.1,
            ap (λ b. cond b (Some (draws_in suite whole + 1)) (sak_number suite whole sak)) other
                ∙ t.2,
          );
    }

-- ---- an event of the group itself

-- behind a list stands what is put there
get-end : {A : Type 0} (xs : List A) (n : ℕ) (a : A) → 1 ≤ n
    → slice_get (xs ++ replicate n a) (length xs) ≡ Some a
get-end [] zero a some = absurd (omega (arith, some))
get-end [] (suc n) a some = refl
get-end (x ∷ xs) n a some = get-end xs n a some

some-draw : (b c : Bool) (suite : Suite) → (b ≡ true) ⊎ (c ≡ true)
    → 1 ≤ cond b 1 0 + cond c (sak_draws suite) 0
some-draw true c suite either = omega arith
some-draw false true GcmAes128 either = omega arith
some-draw false true GcmAes256 either = omega arith
some-draw false false suite (inl one) = absurd (cc one)
some-draw false false suite (inr one) = absurd (cc one)

is-there : {A : Type 0} (same : A → A → Bool) (a : A) (o : Option A)
    → is_drawn same a o ≡ true → is_some o ≡ true
is-there same a None drawn = absurd (cc drawn)
is-there same a (Some b) drawn = refl

some-same : {A : Type 0} {a b : A} → Some a ≡ Some b → a ≡ b
some-same e = cc e

-- the number of a value, and that over both, before and after one more draw
more-traced : (b : Bool) (count over own : ℕ) (draws : List ℕ) (n : ℕ) (mine whole : Option ℕ)
    → length draws ≡ count → (b ≡ true → 1 ≤ n)
    → ((own : ℕ) → mine ≡ Some own
    → (o : ℕ) × (slice_get draws (own - 1) ≡ Some o) × (whole ≡ Some o))
    → cond b (Some (count + 1)) mine ≡ Some own
    → (o : ℕ) × (slice_get (draws ++ replicate n over) (own - 1) ≡ Some o)
    × (cond b (Some over) whole ≡ Some o)
more-traced true count over own draws n mine whole len some before is =
    let next : own ≡ count + 1 = sym (some-same is) in
    let place : own - 1 ≡ length draws = omega (arith, next, len) in (
      over,
      ap (λ i. slice_get (draws ++ replicate n over) i) place ∙ get-end draws n over (some refl),
      refl,
    )
more-traced false count over own draws n mine whole len some before is =
    let t = before own is in
    (t.0, get-more draws (replicate n over) (own - 1) t.0 t.1, t.2)

pub traced-both : (suite : Suite) (y : Happening) (r whole : Run) (draws : List ℕ)
    → AreTraced suite r whole draws
    → AreTraced suite (y ∷ r) (y ∷ whole)
    (draws ++ replicate (draws_by suite y) (draws_in suite whole + 1))
unfolding draws_in mi_number sak_number
traced-both suite y r whole draws traced =
    let n = draws_by suite y in
    let over = draws_in suite whole + 1 in
    let len : length (draws ++ replicate n over) ≡ length draws + n =
    length-append draws (replicate n over) ∙ ap (λ m. length draws + m) (length-replicate n over) in
    record {
      count = omega (arith, len, traced.count);
      mis = λ mi own is.
          more-traced (is_drawn same_mi mi (drawn_mi y.facts)) (draws_in suite r) over own draws n
          (mi_number suite r mi) (mi_number suite whole mi) traced.count
          (λ drawn. some-draw (is_some (drawn_mi y.facts))
          (is_some (sak_of_tick y.facts y.event)) suite
          (inl (is-there same_mi mi (drawn_mi y.facts) drawn)))
          (traced.mis mi) is;
      saks = λ sak own is.
          more-traced (is_drawn same_secret sak (sak_of_tick y.facts y.event)) (draws_in suite r) over
          own draws n (sak_number suite r sak) (sak_number suite whole sak) traced.count
          (λ drawn. some-draw (is_some (drawn_mi y.facts))
          (is_some (sak_of_tick y.facts y.event)) suite
          (inr (is-there same_secret sak (sak_of_tick y.facts y.event) drawn)))
          (traced.saks sak) is;
    }

-- ---- a value that repeats one of its group

-- the draw that gave before, over both
pub traced-before : (suite : Suite) (y : Happening) (r whole : Run) (draws : List ℕ) (own : ℕ)
    → AreTraced suite r whole draws
    → (drawn_mi y.facts ≡ None) ⊎ (sak_of_tick y.facts y.event ≡ None)
    → drawn_before suite r y ≡ Some own
    → Some (number_over draws own) ≡ drawn_before suite whole y
traced-before suite y r whole draws own traced one is =
    go (drawn_mi y.facts) (sak_of_tick y.facts y.event) one is
  where
    or-none : (o : Option ℕ) → option_or o None ≡ o
    or-none None = refl
    or-none (Some a) = refl

    go : (m : Option Mi) (k : Option Secret) → (m ≡ None) ⊎ (k ≡ None)
        → option_or (option_and_then (mi_number suite r) m)
        (option_and_then (sak_number suite r) k) ≡ Some own
        → Some (number_over draws own) ≡ option_or (option_and_then (mi_number suite whole) m)
        (option_and_then (sak_number suite whole) k)
    go None None one is = absurd (cc is)
    go None (Some sak) one is =
        let t = traced.saks sak own is in ap (λ o. Some (unwrap_or o 0)) t.1 ∙ sym t.2
    go (Some mi) None one is =
        let t = traced.mis mi own (sym (or-none (mi_number suite r mi)) ∙ is) in
        ap (λ o. Some (unwrap_or o 0)) t.1 ∙ sym (ap (λ o. option_or o None) t.2)
    go (Some mi) (Some sak) (inl none) is = absurd (cc none)
    go (Some mi) (Some sak) (inr none) is = absurd (cc none)
