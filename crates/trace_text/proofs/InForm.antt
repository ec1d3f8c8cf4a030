-- Each word of a line that is read is inside its form.
use Rattle.std.proofs.Common.{◌≡◌, ℕ, ◌<◌, ◌≤◌, ◌==◌, Bool, true, false, List, [], ◌∷◌, length, refl, sym, ap, ◌∙◌, subst, inl, inr, arith}
use Rattle.std.specs.Prelude.{Option, Some, None, Result, Ok, Err, IfOk, IfSome, cond, if◌then◌else◌, ◌&&◌, ◌⊎◌, nat_lt, codes, map}
use Rattle.std.specs.Result.{result_ok, result_map_both}
use Rattle.std.specs.Option.{ok_or}
use Rattle.std.specs.Str.Parse.{digits_value}
use Rattle.std.proofs.lemmas.Bool.Decides.{nat_tests}
use Rattle.hex.specs.declared.error.FromHexError.{FromHexError}
use Rattle.hex.specs.Hex.{decode_of, decode_sized, IsBytes}
use Rattle.hex.proofs.HexLemmas.{decode_of-ok, decode_sized-ok, decode_sized-twice}
use Rattle.lan_base.specs.Name.{is_name}
use Rattle.trace_text.specs.declared.fault.LineError.{LineError}
use Rattle.trace_text.specs.declared.fault.TextFault.{TextFault}
use Rattle.trace_text.specs.declared.fault.TextFault.TheVariants.{TooLong, Word, Hex, Range}
use Rattle.trace_text.specs.declared.keyword.Keyword.{Keyword}
use Rattle.trace_text.specs.declared.keyword.Keyword.TheVariants as keys
use Rattle.trace_text.specs.declared.line.Line.{Line}
use Rattle.trace_text.specs.declared.line.Line.TheVariants.{DrawsCount, DrawsChaCha, DrawsList}
use Rattle.trace_text.specs.Limits.{most_line}
use Rattle.trace_text.specs.Words.{words_of, is_word}
use Rattle.trace_text.specs.Kinds.{Kind, name, number, suite, exactly, octets, secret, Said, said, IsFit, is_number, is_within, is_either, if_allowed, exactly_of}
use Rattle.trace_text.specs.Keywords.{keyword_of}
use Rattle.trace_text.specs.Forms.{Row, makes, ◌⇒◌, blocks, Form, form, just, some, forms_of}
use Rattle.trace_text.specs.Reading.{◌>>=◌, blocks_of, along, by_count, by_form, draws_of, line_by, line_of, is_comment, line_of_words, line_in}
use Rattle.trace_text.specs.Writing.{◌∶◌, AllFit, IsInForm}
use Rattle.trace_text.specs.Answering.{Answers}

abbrev value_or : {A : Type 0} → A → Result A TextFault → A
value_or d (Ok x) = x
value_or d (Err fault) = d

abbrev fine : {A : Type 0} → A → Result A TextFault
fine x = Ok x

pub same_value : {A : Type 0} (x y : A) → fine x ≡ fine y → x ≡ y
same_value x y e = ap (value_or x) e

-- what a test let through
passed : {A : Type 0} (b : Bool) (v x : A) (fault : TextFault) → (if b then Ok v else Err fault) ≡ Ok x → (b ≡ true) × (v ≡ x)
passed true v x fault e = (refl, same_value v x e)
passed false v x fault e = absurd cc

both : (a b : Bool) → a && b ≡ true → (a ≡ true) × (b ≡ true)
both true true e = (refl, refl)
both true false e = absurd cc
both false b e = absurd cc

within_bounds : (low high n : ℕ) → is_within low high n ≡ true → (low ≤ n) × (n ≤ high)
within_bounds low high n e = (grind (arith, nat_tests), grind (arith, nat_tests))

one_of_two : (this that n : ℕ) → is_either this that n ≡ true → (n ≡ this) ⊎ (n ≡ that)
one_of_two this that n e = grind (arith, nat_tests)

number_fits : (word : List ℕ) (allowed : ℕ → Bool) (n : ℕ) → (if is_number word && allowed (digits_value 10 word) then Ok (digits_value 10 word) else Err Range) ≡ Ok n → allowed n ≡ true
number_fits word allowed n e =
    let p = passed (is_number word && allowed (digits_value 10 word)) (digits_value 10 word) n Range e in
    ap allowed (sym p.1) ∙ (both (is_number word) (allowed (digits_value 10 word)) p.0).1

octets_fit : (allowed : ℕ → Bool) (word : List ℕ) (r : Result (List ℕ) FromHexError) → decode_of word ≡ r → (xs : List ℕ) → if_allowed allowed (result_ok r) ≡ Ok xs
    → (allowed (length xs) ≡ true) × IsBytes xs
octets_fit allowed word (Ok decoded) d xs e =
    let p = passed (allowed (length decoded)) decoded xs Hex e in
    let bytes = (decode_of-ok word decoded d).3 in
    (ap (λ ys. allowed (length ys)) (sym p.1) ∙ p.0, subst IsBytes p.1 bytes)
octets_fit allowed word (Err fault) d xs e = absurd cc

array_fits : (count : ℕ) (word : List ℕ) (r : Result (List ℕ) FromHexError) → decode_sized word count ≡ r → (xs : List ℕ) → ok_or (result_ok r) Hex ≡ Ok xs
    → (length xs ≡ count) × IsBytes xs
array_fits count word (Ok decoded) d xs e =
    let same = same_value decoded xs e in
    let digits = decode_sized-ok word count decoded d in
    let ok = decode_of-ok word decoded (sym (decode_sized-twice word count digits) ∙ d) in
    let size : length decoded ≡ count = omega (arith, digits, ok.2) in
    (subst (λ ys. length ys ≡ count) same size, subst IsBytes same ok.3)
array_fits count word (Err fault) d xs e = absurd cc

pub said_fits : (k : Kind) (word : List ℕ) (x : Said k) → said k word ≡ Ok x → IsFit k x
said_fits name word x e =
    let p = passed (is_name word) word x Range e in
    subst (λ w. is_name w ≡ true) p.1 p.0
said_fits (number low high) word x e = within_bounds low high x (number_fits word (is_within low high) x e)
said_fits suite word x e = tt
said_fits (exactly count) word x e = array_fits count word (decode_sized word count) refl x e
said_fits (octets low high) word x e =
    let p = octets_fit (is_within low high) word (decode_of word) refl x e in
    let bounds = within_bounds low high (length x) p.0 in
    (bounds.0, bounds.1, p.1)
said_fits secret word x e =
    let p = octets_fit (is_either 16 32) word (decode_of word) refl x e in
    (one_of_two 16 32 (length x) p.0, p.1)

-- the parts of two steps that gave a value
pub both_steps : {A B : Type 0} (r : Result A TextFault) (f : A → Result B TextFault) (y : B) → (r >>= f) ≡ Ok y → (x : A) × (r ≡ Ok x) × (f x ≡ Ok y)
both_steps (Ok x) f y e = (x, refl, e)
both_steps (Err fault) f y e = absurd cc

-- every line that a row makes of words that fit is in its form
abbrev RowFits : Row → Type 0
RowFits (makes line) = IsInForm line
RowFits (kind ⇒ next) = (x : Said kind) → IsFit kind x → RowFits (next x)
RowFits (blocks line) = ⊥

along_fits : (row : Row) (words : List (List ℕ)) (line : Line) → RowFits row → along row words ≡ Ok line → IsInForm line
along_fits (makes made) words line fits e = subst IsInForm (same_value made line e) fits
along_fits (kind ⇒ next) [] line fits e = absurd cc
along_fits (kind ⇒ next) (word ∷ words) line fits e =
    let p = both_steps (said kind word) (λ x. along (next x) words) line e in
    along_fits (next p.0) words line (fits p.0 (said_fits kind word p.0 p.1)) p.2
along_fits (blocks made) words line fits e = absurd fits

record FormFits (f : Form) : Type 0 where
  gives : (words : List (List ℕ)) (line : Line) → f.counts (length words) ≡ true → along f.row words ≡ Ok line → IsInForm line

from_row : {f : Form} → RowFits f.row → FormFits f
from_row {f} fits = record { gives = λ words line counts e. along_fits f.row words line fits e }

abbrev FormsFit : List Form → Type 0
FormsFit [] = Unit {0}
FormsFit (f ∷ fs) = FormFits f × FormsFit fs

pub by_test : {A : Type 0} (b : Bool) (r s : Result A TextFault) (x : A) → (if b then r else s) ≡ Ok x → ((b ≡ true) × (r ≡ Ok x)) ⊎ (s ≡ Ok x)
by_test true r s x e = inl (refl, e)
by_test false r s x e = inr e

count_fits : (fs : List Form) (words : List (List ℕ)) (line : Line) → FormsFit fs → by_count fs words ≡ Ok line → IsInForm line
count_fits [] words line fits e = absurd cc
count_fits (f ∷ fs) words line fits e =
    elim (by_test (f.counts (length words)) (along f.row words) (by_count fs words) line e) [
      | inl here ↦ fits.0.gives words line here.0 here.1
      | inr later ↦ count_fits fs words line fits.1 later
    ]

form_fits : (form : Form) (words : List (List ℕ)) (line : Line) → FormFits form → by_form (Some form) words ≡ Ok line → IsInForm line
form_fits form words line fits e = count_fits (form ∷ []) words line (fits, tt) e

blocks_fit : (words values : List (List ℕ)) → blocks_of words ≡ Ok values → AllFit (map (λ value. exactly 16 ∶ value) values) × (length values ≡ length words)
blocks_fit [] [] e = (tt, refl)
blocks_fit [] (value ∷ values) e = absurd cc
blocks_fit (word ∷ words) values e =
    let p = both_steps (exactly_of 16 word) (λ block. blocks_of words >>= (λ others. Ok (block ∷ others))) values e in
    let q = both_steps (blocks_of words) (λ others. Ok (p.0 ∷ others)) values p.2 in
    let ih = blocks_fit words q.0 q.1 in
    let same : p.0 ∷ q.0 ≡ values = same_value (p.0 ∷ q.0) values q.2 in
    let size : length (p.0 ∷ q.0) ≡ length (word ∷ words) = omega (arith, ih.1) in
    (subst (λ xs. AllFit (map (λ value. exactly 16 ∶ value) xs)) same (said_fits (exactly 16) word p.0 p.1, ih.0), ap length (sym same) ∙ size)

list_fits : (words : List (List ℕ)) (line : Line) → nat_lt 0 (length words) ≡ true → along (blocks DrawsList) words ≡ Ok line → IsInForm line
list_fits words line some e =
    let p = both_steps (blocks_of words) (λ values. Ok (DrawsList values)) line e in
    let fit = blocks_fit words p.0 p.1 in
    let listed : 0 < length p.0 = grind (arith, nat_tests, fit.1) in
    subst IsInForm (same_value (DrawsList p.0) line p.2) (record { fits = fit.0; listed = listed })

abbrev count_form : Form
count_form = form (just 0) (makes DrawsCount)

abbrev chacha_form : Form
chacha_form = form (just 1) (exactly 32 ⇒ λ key. makes (DrawsChaCha key))

abbrev list_form : Form
list_form = form some (blocks DrawsList)

second_fits : (count chacha listed : Bool) (words : List (List ℕ)) (line : Line)
    → by_form (if count then Some count_form else if chacha then Some chacha_form else if listed then Some list_form else None) words ≡ Ok line → IsInForm line
second_fits true chacha listed words line e = form_fits count_form words line (from_row (record { fits = tt; listed = tt })) e
second_fits false true listed words line e = form_fits chacha_form words line (from_row (λ key fit. record { fits = (fit, tt); listed = tt })) e
second_fits false false true words line e = form_fits list_form words line (record { gives = list_fits }) e
second_fits false false false words line e = absurd cc

draws_of_fit : (words : List (List ℕ)) (line : Line) → draws_of words ≡ Ok line → IsInForm line
draws_of_fit [] line e = absurd cc
draws_of_fit (second ∷ words) line e = second_fits (is_word second (codes "count")) (is_word second (codes "chacha")) (is_word second (codes "list")) words line e

bit_fits : (b : Bool) → IsFit (number 0 1) (cond b 1 0)
bit_fits true = (omega arith, omega arith)
bit_fits false = (omega arith, omega arith)

forms_fit : (k : Keyword) → FormsFit (forms_of k)
forms_fit keys.Draws = tt
forms_fit keys.Conf = (from_row (λ a af. record { fits = (af, tt); listed = tt }), tt)
forms_fit keys.Window = (from_row (λ a af. record { fits = (af, tt); listed = tt }), tt)
forms_fit keys.Rekey = (from_row (λ a af. record { fits = (af, tt); listed = tt }), tt)
forms_fit keys.Lag = (from_row (λ a af. record { fits = (af, tt); listed = tt }), tt)
forms_fit keys.Suite = (from_row (λ a af. record { fits = (af, tt); listed = tt }), tt)
forms_fit keys.Flag = (from_row (λ a af. record { fits = (bit_fits (a == 1), tt); listed = tt }), tt)
forms_fit keys.Group = (from_row (λ a af b bf. record { fits = (af, (bf, tt)); listed = tt }), tt)
forms_fit keys.Station = (from_row (λ a af b bf d df. record { fits = (af, (bf, (df, tt))); listed = tt }), tt)
forms_fit keys.Tick = (from_row (λ a af. record { fits = (af, tt); listed = tt }), (from_row (λ a af b bf. record { fits = (af, (bf, tt)); listed = tt }), tt))
forms_fit keys.Flow = (from_row (λ a af. record { fits = (af, tt); listed = tt }), tt)
forms_fit keys.Deliver = (from_row (λ a af b bf. record { fits = (af, (bf, tt)); listed = tt }), tt)
forms_fit keys.Spread = (from_row (λ a af. record { fits = (af, tt); listed = tt }), tt)
forms_fit keys.Lose = (from_row (λ a af. record { fits = (af, tt); listed = tt }), tt)
forms_fit keys.Cut = (from_row (λ a af b bf. record { fits = (af, (bf, tt)); listed = tt }), tt)
forms_fit keys.Mend = (from_row (λ a af b bf. record { fits = (af, (bf, tt)); listed = tt }), tt)
forms_fit keys.Restart = (from_row (λ a af. record { fits = (af, tt); listed = tt }), tt)
forms_fit keys.Send = (from_row (λ a af b bf d df. record { fits = (af, (bf, (df, tt))); listed = tt }), tt)
forms_fit keys.Race = (from_row (record { fits = tt; listed = tt }), tt)
forms_fit keys.Burst = (from_row (λ a af b bf d df e ef g gf. record { fits = (af, (bf, (df, (ef, (gf, tt))))); listed = tt }), tt)
forms_fit keys.While = (from_row (record { fits = tt; listed = tt }), tt)
forms_fit keys.End = (from_row (record { fits = tt; listed = tt }), tt)
forms_fit keys.Inject = (from_row (λ a af b bf. record { fits = (af, (bf, tt)); listed = tt }), tt)
forms_fit keys.Feed = (from_row (λ a af b bf d df. record { fits = (af, (bf, (df, tt))); listed = tt }), tt)

behind_fits : (k : Keyword) (words : List (List ℕ)) (line : Line) → line_by k words ≡ Ok line → IsInForm line
behind_fits keys.Draws words line e = draws_of_fit words line e
behind_fits keys.Conf words line e = count_fits (forms_of keys.Conf) words line (forms_fit keys.Conf) e
behind_fits keys.Window words line e = count_fits (forms_of keys.Window) words line (forms_fit keys.Window) e
behind_fits keys.Rekey words line e = count_fits (forms_of keys.Rekey) words line (forms_fit keys.Rekey) e
behind_fits keys.Lag words line e = count_fits (forms_of keys.Lag) words line (forms_fit keys.Lag) e
behind_fits keys.Suite words line e = count_fits (forms_of keys.Suite) words line (forms_fit keys.Suite) e
behind_fits keys.Flag words line e = count_fits (forms_of keys.Flag) words line (forms_fit keys.Flag) e
behind_fits keys.Group words line e = count_fits (forms_of keys.Group) words line (forms_fit keys.Group) e
behind_fits keys.Station words line e = count_fits (forms_of keys.Station) words line (forms_fit keys.Station) e
behind_fits keys.Tick words line e = count_fits (forms_of keys.Tick) words line (forms_fit keys.Tick) e
behind_fits keys.Flow words line e = count_fits (forms_of keys.Flow) words line (forms_fit keys.Flow) e
behind_fits keys.Deliver words line e = count_fits (forms_of keys.Deliver) words line (forms_fit keys.Deliver) e
behind_fits keys.Spread words line e = count_fits (forms_of keys.Spread) words line (forms_fit keys.Spread) e
behind_fits keys.Lose words line e = count_fits (forms_of keys.Lose) words line (forms_fit keys.Lose) e
behind_fits keys.Cut words line e = count_fits (forms_of keys.Cut) words line (forms_fit keys.Cut) e
behind_fits keys.Mend words line e = count_fits (forms_of keys.Mend) words line (forms_fit keys.Mend) e
behind_fits keys.Restart words line e = count_fits (forms_of keys.Restart) words line (forms_fit keys.Restart) e
behind_fits keys.Send words line e = count_fits (forms_of keys.Send) words line (forms_fit keys.Send) e
behind_fits keys.Race words line e = count_fits (forms_of keys.Race) words line (forms_fit keys.Race) e
behind_fits keys.Burst words line e = count_fits (forms_of keys.Burst) words line (forms_fit keys.Burst) e
behind_fits keys.While words line e = count_fits (forms_of keys.While) words line (forms_fit keys.While) e
behind_fits keys.End words line e = count_fits (forms_of keys.End) words line (forms_fit keys.End) e
behind_fits keys.Inject words line e = count_fits (forms_of keys.Inject) words line (forms_fit keys.Inject) e
behind_fits keys.Feed words line e = count_fits (forms_of keys.Feed) words line (forms_fit keys.Feed) e

pub first_fits : (o : Option Keyword) (words : List (List ℕ)) (line : Line) → (ok_or o Word >>= (λ keyword. line_by keyword words)) ≡ Ok line → IsInForm line
first_fits (Some keyword) words line e = behind_fits keyword words line e
first_fits None words line e = absurd cc

abbrev line_or : Line → Result (Option Line) TextFault → Line
line_or d (Ok (Some line)) = line
line_or d (Ok None) = d
line_or d (Err fault) = d

some_line : (r : Result Line TextFault) (line : Line) → result_map_both (λ x. Some x) (λ fault. fault) r ≡ Ok (Some line) → r ≡ Ok line
some_line (Ok made) line e = ap Ok (ap (line_or made) e)
some_line (Err fault) line e = absurd cc

comment_or : (b : Bool) (r : Result Line TextFault) (line : Line) → (if b then Ok None else result_map_both (λ x. Some x) (λ fault. fault) r) ≡ Ok (Some line) → r ≡ Ok line
comment_or true r line e = absurd cc
comment_or false r line e = some_line r line e

words_fit : (words : List (List ℕ)) (line : Line) → line_of_words words ≡ Ok (Some line) → IsInForm line
words_fit [] line e = absurd cc
words_fit (first ∷ words) line e =
    first_fits (keyword_of first) words line (comment_or (is_comment first) (line_of first words) line e)

short_enough : (b : Bool) (r : Result (Option Line) TextFault) (said : Option Line) → (if b then Err TooLong else r) ≡ Ok said → r ≡ Ok said
short_enough true r said e = absurd cc
short_enough false r said e = e

pub read_fits : (text : List ℕ) (line : Line) → line_in text ≡ Ok (Some line) → IsInForm line
unfolding line_in
read_fits text line e = words_fit (words_of text) line (short_enough (nat_lt most_line (length text)) (line_of_words (words_of text)) (Some line) e)

pub answer_fits : (r : Result (Option Line) LineError) (text : List ℕ) → Answers r (line_in text) → IfOk r (λ read. IfSome read IsInForm)
answer_fits (Ok None) text e = tt
answer_fits (Ok (Some line)) text e = read_fits text line e
answer_fits (Err error) text e = tt
