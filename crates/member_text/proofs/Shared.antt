-- A line of a shared keyword is shared.
use Rattle.std.proofs.Common.{◌≡◌, ℕ, Bool, true, false, List, [], ◌∷◌, length, inl, inr, subst}
use Rattle.std.specs.Prelude.{Option, Some, None, Ok, IfSome, if◌then◌else◌, codes}
use Rattle.std.specs.Option.{ok_or, option_map_or}
use Rattle.trace_text.specs.declared.fault.TextFault.TheVariants.{Word}
use Rattle.trace_text.specs.declared.keyword.Keyword.{Keyword}
use Rattle.trace_text.specs.declared.keyword.Keyword.TheVariants as keys
use Rattle.trace_text.specs.declared.line.Line.{Line}
use Rattle.trace_text.specs.declared.line.Line.TheVariants.{DrawsCount, DrawsChaCha, DrawsList}
use Rattle.trace_text.specs.Words.{is_word}
use Rattle.trace_text.specs.Kinds.{Said, said, exactly}
use Rattle.trace_text.specs.Forms.{Row, makes, ◌⇒◌, blocks, Form, form, just, some, draws_form, forms_of}
use Rattle.trace_text.specs.Reading.{◌>>=◌, blocks_of, along, by_count, by_form, draws_of, line_by}
use Rattle.trace_text.proofs.Public.{both_steps, by_test, same_value}
use Rattle.member_text.specs.InForm.{IsShared}
use Rattle.member_text.specs.Reading.{shares}

-- every line that a row makes is shared
abbrev RowShared : Row → Type 0
RowShared (makes line) = IsShared line
RowShared (kind ⇒ next) = (x : Said kind) → RowShared (next x)
RowShared (blocks line) = (values : List (List ℕ)) → IsShared (line values)

along_shared : (row : Row) (words : List (List ℕ)) (line : Line) → RowShared row → along row words ≡ Ok line → IsShared line
along_shared (makes made) words line all e = subst IsShared (same_value made line e) all
along_shared (kind ⇒ next) [] line all e = absurd cc
along_shared (kind ⇒ next) (word ∷ words) line all e =
    let p = both_steps (said kind word) (λ x. along (next x) words) line e in
    along_shared (next p.0) words line (all p.0) p.2
along_shared (blocks made) words line all e =
    let p = both_steps (blocks_of words) (λ values. Ok (made values)) line e in
    subst IsShared (same_value (made p.0) line p.2) (all p.0)

abbrev AllShared : List Form → Type 0
AllShared [] = Unit {0}
AllShared (f ∷ fs) = RowShared f.row × AllShared fs

count_shared : (fs : List Form) (words : List (List ℕ)) (line : Line) → AllShared fs → by_count fs words ≡ Ok line → IsShared line
count_shared [] words line all e = absurd cc
count_shared (f ∷ fs) words line all e =
    elim (by_test (f.counts (length words)) (along f.row words) (by_count fs words) line e) [
      | inl here ↦ along_shared f.row words line all.0 here.1
      | inr later ↦ count_shared fs words line all.1 later
    ]

abbrev MaybeShared : Option Form → Type 0
MaybeShared o = IfSome o (λ f. RowShared f.row)

form_shared : (o : Option Form) (words : List (List ℕ)) (line : Line) → MaybeShared o → by_form o words ≡ Ok line → IsShared line
form_shared None words line all e = absurd cc
form_shared (Some f) words line all e = count_shared (f ∷ []) words line (all, tt) e

or_shared : (b : Bool) (f : Form) (o : Option Form) → RowShared f.row → MaybeShared o → MaybeShared (if b then Some f else o)
or_shared true f o here later = here
or_shared false f o here later = later

draws_form_shared : (second : List ℕ) → MaybeShared (draws_form second)
draws_form_shared second =
    or_shared (is_word second (codes "count")) (form (just 0) (makes DrawsCount)) _ tt
    (or_shared (is_word second (codes "chacha")) (form (just 1) (exactly 32 ⇒ λ key. makes (DrawsChaCha key))) _ (λ key. tt)
    (or_shared (is_word second (codes "list")) (form some (blocks DrawsList)) None (λ values. tt) tt))

draws_shared : (words : List (List ℕ)) (line : Line) → draws_of words ≡ Ok line → IsShared line
draws_shared [] line e = absurd cc
draws_shared (second ∷ words) line e = form_shared (draws_form second) words line (draws_form_shared second) e

behind_shared : (k : Keyword) (words : List (List ℕ)) (line : Line) → shares k ≡ true → line_by k words ≡ Ok line → IsShared line
behind_shared keys.Draws words line s e = draws_shared words line e
behind_shared keys.Conf words line s e = count_shared (forms_of keys.Conf) words line (λ a. tt, tt) e
behind_shared keys.Window words line s e = absurd cc
behind_shared keys.Rekey words line s e = count_shared (forms_of keys.Rekey) words line (λ a. tt, tt) e
behind_shared keys.Lag words line s e = absurd cc
behind_shared keys.Suite words line s e = count_shared (forms_of keys.Suite) words line (λ a. tt, tt) e
behind_shared keys.Flag words line s e = count_shared (forms_of keys.Flag) words line (λ a. tt, tt) e
behind_shared keys.Group words line s e = count_shared (forms_of keys.Group) words line (λ a b. tt, tt) e
behind_shared keys.Station words line s e = absurd cc
behind_shared keys.Tick words line s e = absurd cc
behind_shared keys.Flow words line s e = absurd cc
behind_shared keys.Deliver words line s e = absurd cc
behind_shared keys.Spread words line s e = absurd cc
behind_shared keys.Lose words line s e = absurd cc
behind_shared keys.Cut words line s e = absurd cc
behind_shared keys.Mend words line s e = absurd cc
behind_shared keys.Restart words line s e = count_shared (forms_of keys.Restart) words line (λ a. tt, tt) e
behind_shared keys.Send words line s e = absurd cc
behind_shared keys.Race words line s e = absurd cc
behind_shared keys.Burst words line s e = absurd cc
behind_shared keys.While words line s e = absurd cc
behind_shared keys.End words line s e = absurd cc
behind_shared keys.Inject words line s e = absurd cc
behind_shared keys.Feed words line s e = absurd cc

pub first_shared : (o : Option Keyword) (words : List (List ℕ)) (line : Line) → option_map_or shares o false ≡ true
    → (ok_or o Word >>= (λ keyword. line_by keyword words)) ≡ Ok line → IsShared line
first_shared (Some keyword) words line s e = behind_shared keyword words line s e
first_shared None words line s e = absurd cc
