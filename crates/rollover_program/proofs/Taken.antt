-- What the subcommands with a number take.
use Rattle.std.proofs.Common.{◌≡◌, ◌∙◌, ◌≤◌, ◌⊎◌, ℕ, zero, suc, Bool, true, false, cond, List, []}
use Rattle.std.proofs.Common.{◌∷◌, ◌==◌, length, drop, Option, Some, None, refl, sym, ap, subst}
use Rattle.std.proofs.Common.{inl, inr, codes, ◌||◌}
use Rattle.std.specs.Prelude.{pos, slice_get}
use Rattle.std.specs.List.{fold}
use Rattle.std.specs.Char.{encode_utf8}
use Rattle.std.specs.Str.{bytes_eq, chars}
use Rattle.clap.specs.Lexer.{long_of, short_of}
use Rattle.clap.specs.Values.{refused_kind}
use Rattle.clap.specs.ValueTests.{accepts}
use Rattle.clap.specs.Kinds.{Kinds, or_else, value_kinds}
use Rattle.clap.specs.Walk.{Held, Outcome, Rule, Step, Text, Walk, after_flag, finished, settled}
use Rattle.clap.specs.Walk.{after_step, bundle_met, bundle_step, idle, long_or_other, nothing_held}
use Rattle.clap.specs.Walk.{plain, refused, rows_after, short_or_plain, trailing, value, walk}
use Rattle.clap.specs.Walk.{walked, word_met}
use Rattle.clap.specs.Simple.{Shape, built_leaf, inherited, new_shape}
use Rattle.clap.specs.Faults.{check_fault, defaults_fault, settle_fault, flag_word_fault}
use Rattle.clap.specs.Faults.{level_fault, step_fault, turn_fault, walk_fault, word_fault}
use Rattle.clap.specs.declared.builder.ValueParser.TheVariants as parsers
use Rattle.clap.proofs.ValueTestLemmas.{accepts-Accepts}
use Rattle.rollover_program.specs.Words.{bare, number, number_in, number_of, subcommand}
use Rattle.rollover_program.proofs.Reading.{in_range}

-- nothing failed in either of two steps
pub no_fault : (a b : Kinds) → or_else a b ≡ [] → (a ≡ []) × (b ≡ [])
no_fault [] b e = (refl, e)
no_fault (k ∷ a) b e = absurd cc

-- a value without a fault passes
passes : (t : Text) → value_kinds false (parsers.Signed (pos 1) (pos 9999)) t ≡ []
    → accepts false (parsers.Signed (pos 1) (pos 9999)) t ≡ true
passes t e = go (accepts false (parsers.Signed (pos 1) (pos 9999)) t) e
  where
    go : (b : Bool) → cond b [] (refused_kind (parsers.Signed (pos 1) (pos 9999)) ∷ []) ≡ []
        → b ≡ true
    go true e = refl
    go false e = absurd cc

-- a built subcommand that takes a number
abbrev pub leaf : Text → Shape
leaf name = built_leaf (inherited (bare (new_shape (codes "rollover"))) (subcommand name number))

-- what is held: no row, and what waits to be settled
abbrev held : Option (Text × List Text) → Held
held p = record { rows = []; pending = p; skip = 0 }

abbrev walk_at : Option (Text × List Text) → ℕ → Bool → Walk
walk_at p position is_trailing =
    record {
      held = held p;
      waiting = idle;
      position = position;
      is_trailing = is_trailing;
      stopped = None;
    }

-- no value was taken yet, or one was
abbrev IsReached : Walk → Type 0
IsReached w = ((b : Bool) × (w ≡ walk_at None 1 b))
    ⊎ ((t : Text) × (b : Bool) × (w ≡ walk_at (Some (codes "N", t ∷ [])) 2 b))

module _ (name : Text) where
  abbrev own : List Rule
  own = (leaf name).rules

  -- no letter of a bundle is a flag
  bundled : (k : ℕ) (flags : Text) (skip : ℕ) (h : Held)
      → (bundle_met own k flags skip plain h ≡ (h, plain))
      ⊎ (bundle_met own k flags skip plain h ≡ (h, refused))
  unfolding bundle_met
  bundled zero flags skip h = inl refl
  bundled (suc k) flags skip h =
      go (slice_get (chars flags) 0) skip (λ rest less. bundled k rest less h)
    where
      go : (x : Option ℕ) (skip : ℕ)
          → ((rest : Text) (less : ℕ) → (bundle_met own k rest less plain h ≡ (h, plain))
          ⊎ (bundle_met own k rest less plain h ≡ (h, refused)))
          → (bundle_step own x flags skip plain h (bundle_met own k) ≡ (h, plain))
          ⊎ (bundle_step own x flags skip plain h (bundle_met own k) ≡ (h, refused))
      go None skip more = inl refl
      go (Some x) zero more = inr refl
      go (Some x) (suc skip) more = more (drop (length (encode_utf8 x)) flags) skip

  module _ (p : Option (Text × List Text)) (word : Text) where
    by_short : (f : Option Text) → short_or_plain own idle word f (held p) ≡ (held p, value)
    by_short None = refl
    by_short (Some flags) = elim (bundled (length flags) flags 0 (held p)) [
      | inl e ↦ ap (λ (m : Held × Outcome). after_flag own idle word m.0 m.1) e
      | inr e ↦ ap (λ (m : Held × Outcome). after_flag own idle word m.0 m.1) e
    ]

    by_long : (l : Option (Text × Option Text)) → flag_word_fault own false l word (held p) ≡ []
        → long_or_other own idle word l (held p) ≡ (held p, value)
    by_long None e = by_short (short_of word)
    by_long (Some l) e = absurd cc

    -- a word is the mark of what trails, or a value
    met : (position : ℕ) (b : Bool) → word_fault (leaf name) [] b idle word (held p) ≡ []
        → (word_met own [] b idle position word (held p) ≡ (held p, trailing position))
        ⊎ (word_met own [] b idle position word (held p) ≡ (held p, value))
    met position true e = inr refl
    met position false e = go (bytes_eq word (45 ∷ 45 ∷ [])) e
      where
        go : (m : Bool) → cond m [] (flag_word_fault own false (long_of word) word (held p)) ≡ []
            → (cond m (held p, trailing position)
            (long_or_other own idle word (long_of word) (held p)) ≡ (held p, trailing position))
            ⊎ (cond m (held p, trailing position)
            (long_or_other own idle word (long_of word) (held p)) ≡ (held p, value))
        go true e = inl refl
        go false e = inr (by_long (long_of word) e)

  abbrev next : Walk → Text → Held × Step → Walk
  next w word m = after_step own word w m.0 m.1

  first_step : (b : Bool) (word : Text) → turn_fault (leaf name) [] (walk_at None 1 b) word ≡ []
      → IsReached (walked own [] (walk_at None 1 b) word)
  unfolding walked
  first_step b word e = elim (met None word 1 b (no_fault _ _ e).0) [
    | inl m ↦ inl (true, ap (next (walk_at None 1 b) word) m)
    | inr m ↦ inr (word, b || false, ap (next (walk_at None 1 b) word) m)
  ]

  later_step : (t : Text) (b : Bool) (word : Text)
      → turn_fault (leaf name) [] (walk_at (Some (codes "N", t ∷ [])) 2 b) word ≡ []
      → IsReached (walked own [] (walk_at (Some (codes "N", t ∷ [])) 2 b) word)
  unfolding walked
  later_step t b word e =
      let parts = no_fault _ _ e in
      elim (met (Some (codes "N", t ∷ [])) word 2 b parts.0) [
        | inl m ↦ inr (t, true, ap (next (walk_at (Some (codes "N", t ∷ [])) 2 b) word) m)
        | inr m ↦
            let bad = sym (ap (λ (x : Held × Step). step_fault (leaf name) 2 x.0 x.1) m)
            ∙ parts.1 in
            absurd cc
      ]

  step : (w : Walk) (word : Text) → IsReached w → turn_fault (leaf name) [] w word ≡ []
      → IsReached (walked own [] w word)
  step w word (inl r) e = rw r.1 (first_step r.0 word (rw r.1 at e))
  step w word (inr r) e = rw r.2 (later_step r.0 r.1 word (rw r.2 at e))

  runs : (words : List Text) (w : Walk) → IsReached w → walk_fault (leaf name) [] w words ≡ []
      → IsReached (fold (walked own []) w words)
  unfolding walk_fault
  runs [] w r e = r
  runs (x ∷ xs) w r e =
      let parts = no_fault _ _ e in
      runs xs (walked own [] w x) (step w x r parts.0) parts.1

  abbrev settling : Walk → Kinds
  settling w = settle_fault own false w.held

  abbrev filling : Walk → Kinds
  filling w = defaults_fault (settled own w.held).rows own

  abbrev checking : Walk → Kinds
  checking w = check_fault (leaf name) (finished own w.held) false

  ended : (w : Walk) → IsReached w → settling w ≡ [] → checking w ≡ [] → (n : ℕ)
      × (number_in (finished own w.held) ≡ Some n) × (1 ≤ n) × (n ≤ 9999)
  ended w (inl r) s e =
      let bad : checking (walk_at None 1 r.0) ≡ [] = subst (λ v. checking v ≡ []) r.1 e in
      absurd cc
  ended w (inr r) s e =
      let kept : settling (walk_at (Some (codes "N", r.0 ∷ [])) 2 r.1)
      ≡ [] = subst (λ v. settling v ≡ []) r.2 s in
      let passed = accepts-Accepts false (parsers.Signed (pos 1) (pos 9999)) r.0
      (passes r.0 (no_fault (value_kinds false (parsers.Signed (pos 1) (pos 9999)) r.0) []
      kept).0) in
      rw r.2 (in_range r.0 passed)

  -- words without a fault have a number from 1 to 9999
  pub taken : (words : List Text) → level_fault (leaf name) [] nothing_held words false [] ≡ []
      → (n : ℕ) × (number_in (rows_after own [] words) ≡ Some n) × (1 ≤ n) × (n ≤ 9999)
  taken words e =
      let w = walk own [] nothing_held words in
      let parts = no_fault (walk_fault (leaf name) [] (walk_at None 1 false) words)
      (or_else (settling w) (or_else (filling w) (checking w))) e in
      let rest = no_fault (settling w) (or_else (filling w) (checking w)) parts.1 in
      ended w (runs words (walk_at None 1 false) (inl (false, refl)) parts.0) rest.0
      (no_fault (filling w) (checking w) rest.1).1

  -- a word that does not begin with a hyphen is a value
  module _ (d : ℕ) (ds : Text) (sign : (d == 45) ≡ false) where
    no_flag : short_of (d ∷ ds) ≡ None
    no_flag = rw sign refl

    value_met : word_met own [] false idle 1 (d ∷ ds) (held None) ≡ (held None, value)
    value_met = rw (sign, no_flag) refl

    no_word_fault : word_fault (leaf name) [] false idle (d ∷ ds) (held None) ≡ []
    no_word_fault = rw (sign, no_flag) refl

    taken_up : walked own [] (walk_at None 1 false) (d ∷ ds)
        ≡ walk_at (Some (codes "N", (d ∷ ds) ∷ [])) 2 false
    unfolding walked
    taken_up = ap (next (walk_at None 1 false) (d ∷ ds)) value_met

    abbrev stepped : Held × Step → Kinds
    stepped m = step_fault (leaf name) 1 m.0 m.1

    no_turn_fault : turn_fault (leaf name) [] (walk_at None 1 false) (d ∷ ds) ≡ []
    no_turn_fault = ap (λ k. or_else k
        (stepped (word_met own [] false idle 1 (d ∷ ds) (held None)))) no_word_fault
        ∙ ap stepped value_met

    abbrev after_walk : Walk → Kinds
    after_walk w = or_else (settling w) (or_else (filling w) (checking w))

    settles : value_kinds false (parsers.Signed (pos 1) (pos 9999)) (d ∷ ds) ≡ []
        → after_walk (walk_at (Some (codes "N", (d ∷ ds) ∷ [])) 2 false) ≡ []
    unfolding defaults_fault
    settles ok = ap (λ k. or_else (or_else k []) []) ok

    pub gives : value_kinds false (parsers.Signed (pos 1) (pos 9999)) (d ∷ ds) ≡ []
        → level_fault (leaf name) [] nothing_held ((d ∷ ds) ∷ []) false [] ≡ []
    unfolding walk_fault
    gives ok = ap (λ k. or_else (or_else k [])
        (after_walk (walked own [] (walk_at None 1 false) (d ∷ ds)))) no_turn_fault
        ∙ ap after_walk taken_up ∙ settles ok

    abbrev number_at : Walk → Option ℕ
    number_at w = number_in (finished own w.held)

    read : number_at (walk_at (Some (codes "N", (d ∷ ds) ∷ [])) 2 false) ≡ number_of (d ∷ ds)
    read = rw sign refl

    pub given : number_in (rows_after own [] ((d ∷ ds) ∷ [])) ≡ number_of (d ∷ ds)
    given = ap number_at taken_up ∙ read
