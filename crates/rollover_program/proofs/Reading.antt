-- What the getters of the matches read.
use Rattle.std.proofs.Common.{◌≡◌, ◌∙◌, ◌≤◌, ℕ, Bool, true, false, List, Option, Some, None, Result}
use Rattle.std.proofs.Common.{Ok, Err, refl, sym, ap, arith, codes, option_map, option_and_then}
use Rattle.std.specs.Prelude.{pos, unwrap_or}
use Rattle.std.specs.Option.{option_map_or}
use Rattle.std.specs.Str.{bytes_eq}
use Rattle.std.proofs.lemmas.Slice.Eq.{bytes_eq-Decides}
use Rattle.std.specs.Str.Parse.{ParsesBool, ParsesUnsigned}
use Rattle.clap.specs.Words.{Row, Text, one_of, one_text, rows_of}
use Rattle.clap.specs.Matches.{ReadsOne}
use Rattle.clap.specs.Lexer.{without_minus}
use Rattle.clap.specs.Values.{IsSignedIn}
use Rattle.clap.specs.ValueTests.{is_unsigned_in}
use Rattle.clap.specs.declared.parser.matches.Found.{Found}
use Rattle.clap.specs.declared.builder.ValueParser.TheVariants as parsers
use Rattle.clap.proofs.ValueTestLemmas.{accepts-Accepts, Accepts-accepts}
use Rattle.clap.proofs.WalkLemmas.{one_text-rows}
use Rattle.clap.proofs.CallerReads.{signed_reads}
use Rattle.rollover_program.specs.Words.{number_in, number_of}

module _ {E : Type 0} (G : Text → Result ℕ E → Type 0)
    (only : (u : Text) (x : Result ℕ E) → G u x → ParsesUnsigned 32 10 u x) where
  -- the getter reads the number of a text
  pub reads_number : (t : Text) (r : Option ℕ) → ReadsOne G t r → r ≡ number_of t
  reads_number t (Some v) h =
      let p = only t (Ok v) h in
      let test : is_unsigned_in 0 4294967295 t ≡ true =
      Accepts-accepts false (parsers.Unsigned 0 4294967295) t
      (p.0.0, omega arith, omega arith, omega arith) in
      rw test (ap (λ (n : ℕ). Some n) p.1)
  reads_number t None h = go (is_unsigned_in 0 4294967295 t) refl
    where
      go : (b : Bool) → is_unsigned_in 0 4294967295 t ≡ b → None ≡ number_of t
      go true e =
          let a = accepts-Accepts false (parsers.Unsigned 0 4294967295) t e in
          absurd (only t (Err h.0) h.1 (a.0, omega arith))
      go false e = rw e refl

  pub number_read : (f : Found) (r : Option ℕ) → (one_text f (codes "N") ≡ None → r ≡ None)
      → ((t : Text) → one_text f (codes "N") ≡ Some t → ReadsOne G t r) → r ≡ number_in (rows_of f)
  number_read f r none value = go (one_text f (codes "N")) refl
      ∙ ap (option_and_then number_of) (one_text-rows f (codes "N"))
    where
      go : (o : Option Text) → one_text f (codes "N") ≡ o
          → r ≡ option_and_then number_of (one_text f (codes "N"))
      go None e = rw e (none e)
      go (Some t) e = rw e (reads_number t r (value t e))

reads : (u : Text) → ReadsOne (λ (t : Text) (x : Result ℕ (Unit {0})). ParsesUnsigned 32 10 t x) u
    (number_of u)
reads u = go (is_unsigned_in 0 4294967295 u) refl
  where
    go : (b : Bool) → is_unsigned_in 0 4294967295 u ≡ b
        → ReadsOne (λ (t : Text) (x : Result ℕ (Unit {0})). ParsesUnsigned 32 10 t x) u
        (number_of u)
    go true e =
        let a = accepts-Accepts false (parsers.Unsigned 0 4294967295) u e in
        rw e ((a.0, omega arith), refl)
    go false e =
        let no : (t : Unit {0}) × ParsesUnsigned {E = Unit {0}} 32 10 u (Err t) = (
          tt,
          λ p. let yes : is_unsigned_in 0 4294967295 u ≡ true =
              Accepts-accepts false (parsers.Unsigned 0 4294967295) u
              (p.0, omega arith, omega arith, omega arith) in cc,
        ) in
        rw e no

-- a text that passed has a number from 1 to 9999
pub in_range : (t : Text) → IsSignedIn (pos 1) (pos 9999) t → (n : ℕ)
    × (number_of (without_minus t) ≡ Some n) × (1 ≤ n) × (n ≤ 9999)
in_range t passed = signed_reads (Unit {0})
    (λ (u : Text) (x : Result ℕ (Unit {0})). ParsesUnsigned 32 10 u x) 32 1 9999 t
    (number_of (without_minus t))
    (reads (without_minus t)) (λ u x g. g) (omega arith) passed

-- the flag is read as what it is
module _ (E : Type 0) where
  said : (t : Text) (r : Option Bool) → ReadsOne {E = E} ParsesBool t r
      → unwrap_or r false ≡ bytes_eq t (codes "true")
  said t (Some true) h = rw h refl
  said t (Some false) h = rw h refl
  said t None h = go (bytes_eq t (codes "true")) refl
    where
      go : (b : Bool) → bytes_eq t (codes "true") ≡ b → false ≡ bytes_eq t (codes "true")
      go true e = absurd (h.1.0 ((bytes_eq-Decides t (codes "true")).0 e))
      go false e = sym e

  pub flag_read : (name : Text) (f : Found) (r : Option Bool) → (one_text f name ≡ None → r ≡ None)
      → ((t : Text) → one_text f name ≡ Some t → ReadsOne {E = E} ParsesBool t r)
      → unwrap_or r false
      ≡ option_map_or (λ text. bytes_eq text (codes "true")) (one_of name (rows_of f)) false
  flag_read name f r none value = go (one_text f name) refl
      ∙ ap (λ (o : Option Text). option_map_or (λ text. bytes_eq text (codes "true")) o false)
      (one_text-rows f name)
    where
      go : (o : Option Text) → one_text f name ≡ o
          → unwrap_or r false ≡ option_map_or (λ text. bytes_eq text (codes "true"))
          (one_text f name) false
      go None e = rw (e, none e) refl
      go (Some t) e = rw e (said t r (value t e))

-- what was met, by two of its sides
abbrev pub both_of : {X : Type 0} → (X → Text) → (X → List Row) → X → Text × List Row
both_of f g x = (f x, g x)

pub met_sides : {X : Type 0} (f : X → Text) (g : X → List Row) (o : Option X) (name : Text)
    (rows : List Row) → Some name ≡ option_map f o
    → Some rows ≡ option_map (λ (p : Text × List Row). p.1) (option_map (both_of f g) o)
    → option_map (both_of f g) o ≡ Some (name, rows)
met_sides f g None name rows n h = absurd cc
met_sides f g (Some x) name rows n h =
    let a : name ≡ f x = cc in
    let b : rows ≡ g x = cc in
    rw (a, b) refl
