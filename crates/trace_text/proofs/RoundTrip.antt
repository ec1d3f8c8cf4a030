-- What is written of a line is read as the same line.
use Rattle.std.proofs.Common.{◌≡◌, ℕ, ◌<◌, ◌≤◌, Bool, true, false, List, [], ◌∷◌, ◌++◌, length, refl, ap, ◌∙◌, arith}
use Rattle.std.specs.Prelude.{Some, Ok, not, nat_lt, map, codes}
use Rattle.std.specs.List.{list_all}
use Rattle.std.specs.Result.{result_map_both}
use Rattle.std.proofs.lemmas.Bool.Decides.{nat_tests}
use Rattle.trace_text.specs.declared.keyword.Keyword.{Keyword}
use Rattle.trace_text.specs.declared.keyword.Keyword.TheVariants as keys
use Rattle.trace_text.specs.declared.line.Line.{Line}
use Rattle.trace_text.specs.declared.line.Line.TheVariants.{DrawsList, DrawsCount, DrawsChaCha, Conf, Window, Rekey, Lag, Suite, Flag, Group, Station, Tick, TickOne, Flow, Deliver, Spread, Lose, Cut, Mend, Restart, Send, Race, Burst, While, End, Inject, Feed}
use Rattle.trace_text.specs.Limits.{most_line}
use Rattle.trace_text.specs.Words.{is_blank, words_of, spaced}
use Rattle.trace_text.specs.Keywords.{keyword_of, spelling}
use Rattle.trace_text.specs.Kinds.{spelled, name, secret, exactly, suite, bit, window, rekey, lag, key_name, priority, ticks, frame, frame_from, workers, burst, address, body, injected}
use Rattle.trace_text.specs.Reading.{blocks_of, draws_of, line_by, line_of, is_comment, line_in}
use Rattle.trace_text.specs.Writing.{Field, ◌∶◌, first_words, fields, AllFit, IsInForm, written}
use Rattle.trace_text.proofs.Answering.{line_in-words}
use Rattle.trace_text.proofs.Spacing.{IsWord, AreWords, IsWord-literal, before_space, words_of-spaced}
use Rattle.trace_text.proofs.Spelling.{IsPlain, spelled_word, said_spelled}

-- the words that follow a line's first
abbrev texts : List Field → List (List ℕ)
texts fs = map (λ field. spelled field.kind field.says) fs

abbrev AllPlain : List Field → Type 0
AllPlain [] = Unit {0}
AllPlain (field ∷ others) = IsPlain field.kind × AllPlain others

values_plain : (values : List (List ℕ)) → AllPlain (map (λ value. exactly 16 ∶ value) values)
values_plain [] = tt
values_plain (value ∷ values) = (omega arith, values_plain values)

plain : (line : Line) → AllPlain (fields line)
plain (DrawsList values) = values_plain values
plain DrawsCount = tt
plain (DrawsChaCha a) = (omega arith, tt)
plain (Conf a) = (omega arith, tt)
plain (Window a) = (omega arith, tt)
plain (Rekey a) = (omega arith, tt)
plain (Lag a) = (omega arith, tt)
plain (Suite a) = (tt, tt)
plain (Flag a) = (omega arith, tt)
plain (Group a b) = (tt, (omega arith, tt))
plain (Station a b d) = (tt, (omega arith, (omega arith, tt)))
plain (Tick a) = (omega arith, tt)
plain (TickOne a b) = (tt, (omega arith, tt))
plain (Flow a) = (omega arith, tt)
plain (Deliver a b) = (omega arith, (tt, tt))
plain (Spread a) = (omega arith, tt)
plain (Lose a) = (omega arith, tt)
plain (Cut a b) = (tt, (tt, tt))
plain (Mend a b) = (tt, (tt, tt))
plain (Restart a) = (tt, tt)
plain (Send a b d) = (tt, (omega arith, (omega arith, tt)))
plain Race = tt
plain (Burst a b d e g) = (tt, (omega arith, (omega arith, (omega arith, (omega arith, tt)))))
plain While = tt
plain End = tt
plain (Inject a b) = (tt, (omega arith, tt))
plain (Feed a b d) = (omega arith, (omega arith, (tt, tt)))

all_words : (fs : List Field) → AllPlain fs → AllFit fs → AreWords (texts fs)
all_words [] plain fit = tt
all_words (field ∷ others) plain fit =
    (spelled_word field.kind field.says plain.0 fit.0, all_words others plain.1 fit.1)

abbrev whole : List ℕ → Bool
whole word = list_all (λ octet. not (is_blank octet)) word

-- a keyword's spelling is its own
named : (k : Keyword) → keyword_of (spelling k) ≡ Some k
unfolding keyword_of
named keys.Draws = refl
named keys.Conf = refl
named keys.Window = refl
named keys.Rekey = refl
named keys.Lag = refl
named keys.Suite = refl
named keys.Flag = refl
named keys.Group = refl
named keys.Station = refl
named keys.Tick = refl
named keys.Flow = refl
named keys.Deliver = refl
named keys.Spread = refl
named keys.Lose = refl
named keys.Cut = refl
named keys.Mend = refl
named keys.Restart = refl
named keys.Send = refl
named keys.Race = refl
named keys.Burst = refl
named keys.While = refl
named keys.End = refl
named keys.Inject = refl
named keys.Feed = refl

behind : (first : List ℕ) (k : Keyword) (words : List (List ℕ)) → first ≡ spelling k → line_of first words ≡ line_by k words
behind first k words same = rw (same, named k) refl

-- a line that begins with one word
single : (line : Line) (k : Keyword) → first_words line ≡ spelling k → 0 < length (first_words line) → whole (first_words line) ≡ true → is_comment (first_words line) ≡ false
    → IsInForm line → length (written line) ≤ most_line → line_by k (texts (fields line)) ≡ Ok line → line_in (written line) ≡ Ok (Some line)
unfolding written
single line k same some test plain_first form short e =
    let words : words_of (first_words line ++ spaced (texts (fields line))) ≡ first_words line ∷ texts (fields line)
    = words_of-spaced (first_words line) (texts (fields line)) (IsWord-literal (first_words line) some test) (all_words (fields line) (plain line) form.fits) in
    line_in-words (first_words line ++ spaced (texts (fields line))) (first_words line) (texts (fields line)) short words plain_first
    ∙ ap (result_map_both (λ x. Some x) (λ fault. fault)) (behind (first_words line) k (texts (fields line)) same ∙ e)

-- a line that begins with `draws` and a second word
double : (line : Line) (second : List ℕ) → first_words line ≡ codes "draws" ++ 32 ∷ second → 0 < length second → whole second ≡ true
    → IsInForm line → length (written line) ≤ most_line → draws_of (second ∷ texts (fields line)) ≡ Ok line → line_in (written line) ≡ Ok (Some line)
unfolding written
double line second begins some test form short e =
    let draws : IsWord (codes "draws") = IsWord-literal (codes "draws") (omega arith) refl in
    let text : first_words line ++ spaced (texts (fields line)) ≡ codes "draws" ++ 32 ∷ (second ++ spaced (texts (fields line)))
    = ap (λ xs. xs ++ spaced (texts (fields line))) begins in
    let words : words_of (first_words line ++ spaced (texts (fields line))) ≡ codes "draws" ∷ second ∷ texts (fields line)
    = ap words_of text
    ∙ before_space (codes "draws") (second ++ spaced (texts (fields line))) draws
    ∙ ap (λ ws. codes "draws" ∷ ws) (words_of-spaced second (texts (fields line)) (IsWord-literal second some test) (all_words (fields line) (plain line) form.fits)) in
    line_in-words (first_words line ++ spaced (texts (fields line))) (codes "draws") (second ∷ texts (fields line)) short words refl
    ∙ ap (result_map_both (λ x. Some x) (λ fault. fault)) (behind (codes "draws") keys.Draws (second ∷ texts (fields line)) refl ∙ e)

blocks_said : (values : List (List ℕ)) → AllFit (map (λ value. exactly 16 ∶ value) values) → blocks_of (texts (map (λ value. exactly 16 ∶ value) values)) ≡ Ok values
blocks_said [] fit = refl
blocks_said (value ∷ values) fit =
    rw (said_spelled (exactly 16) value (omega arith) fit.0, blocks_said values fit.1) refl

-- a list of draws has one at least
list_said : (values : List (List ℕ)) → 0 < length values → AllFit (map (λ value. exactly 16 ∶ value) values)
    → draws_of (codes "list" ∷ texts (map (λ value. exactly 16 ∶ value) values)) ≡ Ok (DrawsList values)
list_said [] some fit = absurd (omega arith)
list_said (value ∷ values) some fit =
    let count : nat_lt 0 (length (texts (map (λ x. exactly 16 ∶ x) (value ∷ values)))) ≡ true = grind (arith, nat_tests) in
    rw (count, blocks_said (value ∷ values) fit) refl

pub written_is_read : (line : Line) → IsInForm line → length (written line) ≤ most_line → line_in (written line) ≡ Ok (Some line)
written_is_read (DrawsList values) form short =
    double (DrawsList values) (codes "list") refl (omega arith) refl form short (list_said values form.listed form.fits)
written_is_read DrawsCount form short =
    double DrawsCount (codes "count") refl (omega arith) refl form short refl
written_is_read (DrawsChaCha a) form short =
    double (DrawsChaCha a) (codes "chacha") refl (omega arith) refl form short (rw (said_spelled (exactly 32) a (omega arith) form.fits.0) refl)
written_is_read (Conf a) form short =
    single (Conf a) keys.Conf refl (omega arith) refl refl form short (rw (said_spelled bit a (omega arith) form.fits.0) refl)
written_is_read (Window a) form short =
    single (Window a) keys.Window refl (omega arith) refl refl form short (rw (said_spelled window a (omega arith) form.fits.0) refl)
written_is_read (Rekey a) form short =
    single (Rekey a) keys.Rekey refl (omega arith) refl refl form short (rw (said_spelled rekey a (omega arith) form.fits.0) refl)
written_is_read (Lag a) form short =
    single (Lag a) keys.Lag refl (omega arith) refl refl form short (rw (said_spelled lag a (omega arith) form.fits.0) refl)
written_is_read (Suite a) form short =
    single (Suite a) keys.Suite refl (omega arith) refl refl form short (rw (said_spelled suite a tt form.fits.0) refl)
written_is_read (Flag true) form short =
    single (Flag true) keys.Flag refl (omega arith) refl refl form short (rw (said_spelled bit 1 (omega arith) form.fits.0) refl)
written_is_read (Flag false) form short =
    single (Flag false) keys.Flag refl (omega arith) refl refl form short (rw (said_spelled bit 0 (omega arith) form.fits.0) refl)
written_is_read (Group a b) form short =
    single (Group a b) keys.Group refl (omega arith) refl refl form short (rw (said_spelled secret a tt form.fits.0, said_spelled key_name b (omega arith) form.fits.1.0) refl)
written_is_read (Station a b d) form short =
    single (Station a b d) keys.Station refl (omega arith) refl refl form short (rw (said_spelled name a tt form.fits.0, said_spelled (exactly 8) b.0 (omega arith) form.fits.1.0, said_spelled priority d (omega arith) form.fits.1.1.0) refl)
written_is_read (Tick a) form short =
    single (Tick a) keys.Tick refl (omega arith) refl refl form short (rw (said_spelled ticks a (omega arith) form.fits.0) refl)
written_is_read (TickOne a b) form short =
    single (TickOne a b) keys.Tick refl (omega arith) refl refl form short (rw (said_spelled name a tt form.fits.0, said_spelled ticks b (omega arith) form.fits.1.0) refl)
written_is_read (Flow a) form short =
    single (Flow a) keys.Flow refl (omega arith) refl refl form short (rw (said_spelled ticks a (omega arith) form.fits.0) refl)
written_is_read (Deliver a b) form short =
    single (Deliver a b) keys.Deliver refl (omega arith) refl refl form short (rw (said_spelled frame a (omega arith) form.fits.0, said_spelled name b tt form.fits.1.0) refl)
written_is_read (Spread a) form short =
    single (Spread a) keys.Spread refl (omega arith) refl refl form short (rw (said_spelled frame a (omega arith) form.fits.0) refl)
written_is_read (Lose a) form short =
    single (Lose a) keys.Lose refl (omega arith) refl refl form short (rw (said_spelled frame a (omega arith) form.fits.0) refl)
written_is_read (Cut a b) form short =
    single (Cut a b) keys.Cut refl (omega arith) refl refl form short (rw (said_spelled name a tt form.fits.0, said_spelled name b tt form.fits.1.0) refl)
written_is_read (Mend a b) form short =
    single (Mend a b) keys.Mend refl (omega arith) refl refl form short (rw (said_spelled name a tt form.fits.0, said_spelled name b tt form.fits.1.0) refl)
written_is_read (Restart a) form short =
    single (Restart a) keys.Restart refl (omega arith) refl refl form short (rw (said_spelled name a tt form.fits.0) refl)
written_is_read (Send a b d) form short =
    single (Send a b d) keys.Send refl (omega arith) refl refl form short (rw (said_spelled name a tt form.fits.0, said_spelled address b.0 (omega arith) form.fits.1.0, said_spelled body d (omega arith) form.fits.1.1.0) refl)
written_is_read Race form short =
    single Race keys.Race refl (omega arith) refl refl form short refl
written_is_read (Burst a b d e g) form short =
    single (Burst a b d e g) keys.Burst refl (omega arith) refl refl form short (rw (said_spelled name a tt form.fits.0, said_spelled workers b (omega arith) form.fits.1.0, said_spelled burst d (omega arith) form.fits.1.1.0, said_spelled address e.0 (omega arith) form.fits.1.1.1.0, said_spelled body g (omega arith) form.fits.1.1.1.1.0) refl)
written_is_read While form short =
    single While keys.While refl (omega arith) refl refl form short refl
written_is_read End form short =
    single End keys.End refl (omega arith) refl refl form short refl
written_is_read (Inject a b) form short =
    single (Inject a b) keys.Inject refl (omega arith) refl refl form short (rw (said_spelled name a tt form.fits.0, said_spelled injected b (omega arith) form.fits.1.0) refl)
written_is_read (Feed a b d) form short =
    single (Feed a b d) keys.Feed refl (omega arith) refl refl form short (rw (said_spelled frame a (omega arith) form.fits.0, said_spelled (frame_from a) b (omega arith) form.fits.1.0, said_spelled name d tt form.fits.1.1.0) refl)
