-- Words without a fault order something, and each order has plain words.
use Rattle.std.proofs.Common.{◌≡◌, ◌∙◌, ◌≤◌, ◌==◌, ℕ, Bool, true, false, cond, List, [], ◌∷◌}
use Rattle.std.proofs.Common.{Option, Some, None, is_some, refl, sym, ap, arith, codes, inl, inr, option_map}
use Rattle.std.proofs.Common.{option_and_then}
use Rattle.std.specs.Prelude.{decimal, pos}
use Rattle.std.specs.Option.{option_map_or}
use Rattle.std.specs.Str.Parse.{IsNumeral, digits_value}
use Rattle.std.proofs.lemmas.Bool.{ne_eqb}
use Rattle.std.proofs.lemmas.Fmt.{decimal_is_IsNumeral}
use Rattle.std.proofs.lemmas.Int.{ints}
use Rattle.std.proofs.lemmas.Str.Parse.{digit_from_value}
use Rattle.clap.specs.Words.{Row, Shape, Text, built, fault_of, kind_of}
use Rattle.clap.specs.Values.{IsSignedIn}
use Rattle.clap.specs.ValueTests.{is_unsigned_in}
use Rattle.clap.specs.Kinds.{HasKind, Kinds, or_else}
use Rattle.clap.specs.declared.error.Error.{Error}
use Rattle.clap.specs.declared.error.kind.ErrorKind.TheVariants as errors
use Rattle.clap.specs.Walk.{answers_to, nothing_held, rows_after, settled, finished, walk}
use Rattle.clap.specs.Walk.{walk_from}
use Rattle.clap.specs.Simple.{built_leaf, entered, inherited, names_of, new_shape, rows_at}
use Rattle.clap.specs.Faults.{check_fault, defaults_fault, entered_fault, level_fault, settle_fault}
use Rattle.clap.specs.Faults.{walk_fault}
use Rattle.clap.specs.declared.builder.ValueParser.TheVariants as parsers
use Rattle.clap.proofs.KindLemmas.{value_kinds-ok}
use Rattle.clap.proofs.OnLiterals.{clap_on_literals}
use Rattle.clap.proofs.ValueTestLemmas.{Accepts-accepts}
use Rattle.capture_audit.specs.declared.asks.Asks.{Asks}
use Rattle.rollover_program.specs.declared.words.Order.{Order}
use Rattle.rollover_program.specs.declared.words.Order.TheVariants.{Run, Make, Try, Check, Capture, Dissect, Roll, Draw, Audit}
use Rattle.rollover_program.specs.Words.{IsNumbered, IsUsage, Orders, bare, command, number_of}
use Rattle.rollover_program.specs.Words.{order_by, order_of}
use Rattle.rollover_program.specs.Words.{asks_in, audit, flag, is_given, plain, subcommand, words_of}
use Rattle.rollover_program.proofs.Taken.{given, gives, leaf, no_fault, taken}

-- ---- without a fault

abbrev run_leaf : Shape
run_leaf = built_leaf (inherited (bare (new_shape (codes "rollover")))
    (subcommand (codes "run") (flag (codes "summary"))))

abbrev check_leaf : Shape
check_leaf = built_leaf (inherited (bare (new_shape (codes "rollover"))) (plain (codes "check")))

abbrev capture_leaf : Shape
capture_leaf = built_leaf (inherited (bare (new_shape (codes "rollover"))) (plain (codes "capture")))

abbrev dissect_leaf : Shape
dissect_leaf = built_leaf (inherited (bare (new_shape (codes "rollover"))) (plain (codes "dissect")))

abbrev roll_leaf : Shape
roll_leaf = built_leaf (inherited (bare (new_shape (codes "rollover"))) (plain (codes "roll")))

abbrev draw_leaf : Shape
draw_leaf = built_leaf (inherited (bare (new_shape (codes "rollover"))) (plain (codes "draw")))

abbrev audit_leaf : Shape
audit_leaf = built_leaf (inherited (bare (new_shape (codes "rollover"))) audit)

-- the subcommand that was named
abbrev named : Bool → Bool → Bool → Bool → Bool → Bool → Bool → Bool → Bool → Option Shape
named run make try_ check capture dissect roll draw audit_ = cond run (Some run_leaf)
    (cond make (Some (leaf (codes "make"))) (cond try_ (Some (leaf (codes "try")))
    (cond check (Some check_leaf) (cond capture (Some capture_leaf)
    (cond dissect (Some dissect_leaf) (cond roll (Some roll_leaf)
    (cond draw (Some draw_leaf) (cond audit_ (Some audit_leaf) None))))))))

abbrev rows_in : Option Shape → List Text → Option (Text × List Row)
rows_in sub words = option_map (λ s. rows_at s words) sub

-- what was named orders this
abbrev pub ordered_by : Option (Text × List Row) → Option Order
ordered_by = option_and_then (λ p. order_by p.0 p.1)

orders : (run make try_ check capture dissect roll draw audit_ : Bool) (words : List Text)
    → option_map_or (λ s. level_fault s [] nothing_held words false [])
    (named run make try_ check capture dissect roll draw audit_) []
    ≡ []
    → is_some (rows_in (named run make try_ check capture dissect roll draw audit_) words) ≡ true → (o : Order)
    × (ordered_by (rows_in (named run make try_ check capture dissect roll draw audit_) words) ≡ Some o)
    × IsNumbered o
orders true make try_ check capture dissect roll draw audit_ words e h =
    (Run (is_given (codes "summary") (rows_after run_leaf.rules [] words)), refl, tt)
orders false true try_ check capture dissect roll draw audit_ words e h =
    let n = taken (codes "make") words e in
    (Make n.0, ap (option_map (λ k. Make k)) n.1, (n.2, n.3))
orders false false true check capture dissect roll draw audit_ words e h =
    let n = taken (codes "try") words e in
    (Try n.0, ap (option_map (λ k. Try k)) n.1, (n.2, n.3))
orders false false false true capture dissect roll draw audit_ words e h = (Check, refl, tt)
orders false false false false true dissect roll draw audit_ words e h = (Capture, refl, tt)
orders false false false false false true roll draw audit_ words e h = (Dissect, refl, tt)
orders false false false false false false true draw audit_ words e h = (Roll, refl, tt)
orders false false false false false false false true audit_ words e h = (Draw, refl, tt)
orders false false false false false false false false true words e h = (
  Audit (asks_in (rows_after audit_leaf.rules [] words)) (is_given (codes "draw") (rows_after audit_leaf.rules [] words)),
  refl,
  tt,
)
orders false false false false false false false false false words e h = absurd cc

by_stop : (stop : Option (Text × List Text)) → entered_fault (built command) stop ≡ []
    → is_some (entered (built command) stop) ≡ true
    → (o : Order) × (ordered_by (entered (built command) stop) ≡ Some o) × IsNumbered o
by_stop None e h = absurd cc
by_stop (Some p) e h = orders (answers_to p.0 (codes "run", [])) (answers_to p.0 (codes "make", []))
    (answers_to p.0 (codes "try", [])) (answers_to p.0 (codes "check", []))
    (answers_to p.0 (codes "capture", [])) (answers_to p.0 (codes "dissect", []))
    (answers_to p.0 (codes "roll", [])) (answers_to p.0 (codes "draw", []))
    (answers_to p.0 (codes "audit", [])) p.1 e h

-- a subcommand has to be there
needed : (rows : List Row) (has : Bool) → check_fault (built command).top rows has ≡ [] → has ≡ true
needed rows true e = refl
needed rows false e = absurd cc

-- words without a fault order something
pub ordered : (words : List Text) → fault_of command words ≡ [] → (o : Order)
    × (order_of words ≡ Some o) × IsNumbered o
ordered words e =
    let top = (built command).top in
    let names = names_of (built command) in
    let w = walk top.rules names nothing_held words in
    let below = entered_fault (built command) w.stopped in
    let settling = settle_fault top.rules false w.held in
    let filling = defaults_fault (settled top.rules w.held).rows top.rules in
    let checking = check_fault top (finished top.rules w.held)
    (is_some (entered (built command) w.stopped)) in
    let one = no_fault (walk_fault top names (walk_from nothing_held) words)
    (or_else below (or_else settling (or_else filling checking))) e in
    let two = no_fault below (or_else settling (or_else filling checking)) one.1 in
    let three = no_fault settling (or_else filling checking) two.1 in
    by_stop w.stopped two.0 (needed (finished top.rules w.held)
    (is_some (entered (built command) w.stopped)) (no_fault filling checking three.1).1)

pub by_no_usage : (words : List Text) → (IsUsage words → ⊥)
    → (order : Order) × Orders words order × IsNumbered order
by_no_usage words taken = go (fault_of command words) refl
  where
    go : (k : Kinds) → fault_of command words ≡ k
        → (order : Order) × Orders words order × IsNumbered order
    go [] e =
        let o = ordered words e in
        (o.0, (e, o.1), o.2)
    go (k ∷ ks) e =
        absurd (taken (λ none.
        let bad : k ∷ ks ≡ [] = sym e ∙ none in
        cc))

-- ---- plain words

make_faults : (t : Text) → level_fault (leaf (codes "make")) [] nothing_held (t ∷ []) false [] ≡ []
    → fault_of command (codes "make" ∷ t ∷ []) ≡ []
unfolding clap_on_literals
make_faults t e = ap (λ k. or_else k []) e

try_faults : (t : Text) → level_fault (leaf (codes "try")) [] nothing_held (t ∷ []) false [] ≡ []
    → fault_of command (codes "try" ∷ t ∷ []) ≡ []
unfolding clap_on_literals
try_faults t e = ap (λ k. or_else k []) e

make_orders : (t : Text) → order_of (codes "make" ∷ t ∷ [])
    ≡ order_by (codes "make") (rows_after (leaf (codes "make")).rules [] (t ∷ []))
unfolding clap_on_literals
make_orders t = refl

try_orders : (t : Text) → order_of (codes "try" ∷ t ∷ [])
    ≡ order_by (codes "try") (rows_after (leaf (codes "try")).rules [] (t ∷ []))
unfolding clap_on_literals
try_orders t = refl

-- what a numeral is to the commands with a number
record IsNumberText (t : Text) (n : ℕ) : Type 0 where
  made : fault_of command (codes "make" ∷ t ∷ []) ≡ []
  make : order_of (codes "make" ∷ t ∷ []) ≡ Some (Make n)
  tried : fault_of command (codes "try" ∷ t ∷ []) ≡ []
  try_ : order_of (codes "try" ∷ t ∷ []) ≡ Some (Try n)

numeral : (t : Text) (n : ℕ) → IsNumeral 10 t → digits_value 10 t ≡ n → 1 ≤ n → n ≤ 9999
    → IsNumberText t n
numeral [] n h e low high = absurd (omega (arith, h.0))
numeral (d ∷ ds) n h e low high =
    let minus : (d == 45) ≡ false = ne_eqb _ _ (λ is. omega (arith, digit_from_value d h.1.0)) in
    let plus : (d == 43) ≡ false = ne_eqb _ _ (λ is. omega (arith, digit_from_value d h.1.0)) in
    let signed : IsSignedIn (pos 1) (pos 9999) (d ∷ ds) =
    rw (minus, plus, e) (h, omega (arith, ints), omega (arith, ints), omega (arith, ints)) in
    let passed = value_kinds-ok false (parsers.Signed (pos 1) (pos 9999)) (d ∷ ds) signed in
    let unsigned : is_unsigned_in 0 4294967295 (d ∷ ds)
    ≡ true = Accepts-accepts false (parsers.Unsigned 0 4294967295) (d ∷ ds)
    (rw (plus, e) (h, omega arith, omega arith, omega arith)) in
    let read : number_of (d ∷ ds) ≡ Some n = rw (unsigned, plus, e) refl in
    record {
      made = make_faults (d ∷ ds) (gives (codes "make") d ds minus passed);
      make = make_orders (d ∷ ds) ∙ ap (option_map (λ k. Make k))
          (given (codes "make") d ds minus ∙ read);
      tried = try_faults (d ∷ ds) (gives (codes "try") d ds minus passed);
      try_ = try_orders (d ∷ ds) ∙ ap (option_map (λ k. Try k))
          (given (codes "try") d ds minus ∙ read);
    }

text_of : (n : ℕ) → 1 ≤ n → n ≤ 9999 → IsNumberText (decimal n) n
text_of n low high =
    let d = decimal_is_IsNumeral n (omega arith) in
    numeral (decimal n) n d.0 d.1 low high

run_plain : (s : Bool) → (fault_of command (words_of (Run s)) ≡ [])
    × (order_of (words_of (Run s)) ≡ Some (Run s))
unfolding clap_on_literals
run_plain true = (refl, refl)
run_plain false = (refl, refl)

check_plain : (fault_of command (words_of Check) ≡ []) × (order_of (words_of Check) ≡ Some Check)
unfolding clap_on_literals
check_plain = (refl, refl)

capture_plain : (fault_of command (words_of Capture) ≡ [])
    × (order_of (words_of Capture) ≡ Some Capture)
unfolding clap_on_literals
capture_plain = (refl, refl)

dissect_plain : (fault_of command (words_of Dissect) ≡ [])
    × (order_of (words_of Dissect) ≡ Some Dissect)
unfolding clap_on_literals
dissect_plain = (refl, refl)

roll_plain : (fault_of command (words_of Roll) ≡ []) × (order_of (words_of Roll) ≡ Some Roll)
unfolding clap_on_literals
roll_plain = (refl, refl)

draw_plain : (fault_of command (words_of Draw) ≡ []) × (order_of (words_of Draw) ≡ Some Draw)
unfolding clap_on_literals
draw_plain = (refl, refl)

abbrev asked : Bool → Bool → Bool → Asks
asked shows strict keys = record { shows = shows; strict = strict; keys = keys }

audit_plain : (shows strict keys draws : Bool)
    → (fault_of command (words_of (Audit (asked shows strict keys) draws)) ≡ [])
    × (order_of (words_of (Audit (asked shows strict keys) draws)) ≡ Some (Audit (asked shows strict keys) draws))
unfolding clap_on_literals
audit_plain true true true true = (refl, refl)
audit_plain true true true false = (refl, refl)
audit_plain true true false true = (refl, refl)
audit_plain true true false false = (refl, refl)
audit_plain true false true true = (refl, refl)
audit_plain true false true false = (refl, refl)
audit_plain true false false true = (refl, refl)
audit_plain true false false false = (refl, refl)
audit_plain false true true true = (refl, refl)
audit_plain false true true false = (refl, refl)
audit_plain false true false true = (refl, refl)
audit_plain false true false false = (refl, refl)
audit_plain false false true true = (refl, refl)
audit_plain false false true false = (refl, refl)
audit_plain false false false true = (refl, refl)
audit_plain false false false false = (refl, refl)

-- the plain words for an order have no fault, and order it
pub plain_words : (o : Order) → IsNumbered o → (fault_of command (words_of o) ≡ [])
    × (order_of (words_of o) ≡ Some o)
plain_words (Run s) h = run_plain s
plain_words (Make n) h = let t = text_of n h.0 h.1 in (t.made, t.make)
plain_words (Try n) h = let t = text_of n h.0 h.1 in (t.tried, t.try_)
plain_words Check h = check_plain
plain_words Capture h = capture_plain
plain_words Dissect h = dissect_plain
plain_words Roll h = roll_plain
plain_words Draw h = draw_plain
plain_words (Audit asks draws) h = audit_plain asks.shows asks.strict asks.keys draws

-- ---- words that were refused

-- an error without a kind is want of memory
pub by_none : (kinds : Kinds) (e : Error) → kinds ≡ [] → HasKind kinds e → kind_of e ≡ errors.OutOfMemory
by_none [] e none (inl memory) = memory
by_none [] e none (inr among) = absurd among
by_none (k ∷ ks) e none h = absurd cc
