-- The forms of the words behind a line's first, one row each: how many words there are, what each of
-- them is, and the line that they make.
use Rattle.std.specs.Prelude.{ℕ, ◌==◌, nat_lt, Bool, if◌then◌else◌, List, [], ◌∷◌, Option, Some, None, codes}
use Rattle.trace_text.specs.Words.{is_word}
use Rattle.trace_text.specs.declared.keyword.Keyword.{Keyword}
use Rattle.trace_text.specs.declared.keyword.Keyword.TheVariants as keys
use Rattle.trace_text.specs.Kinds.{Kind, Said, name, secret, exactly, suite, bit, window, rekey, lag, key_name, priority, ticks, frame, frame_from, workers, burst, address, body, injected}
use Rattle.trace_text.specs.declared.line.Line.{Line}
use Rattle.trace_text.specs.declared.line.Line.TheVariants.{DrawsCount, DrawsChaCha, DrawsList, Conf, Window, Rekey, Lag, Suite, Flag, Group, Station, Tick, TickOne, Flow, Deliver, Spread, Lose, Cut, Mend, Restart, Send, Race, Burst, While, End, Inject, Feed}

infixr 5 ◌⇒◌
-- the words that follow, from the left: none more, and the line that is made; one word, and what
-- follows where it says this; or blocks of 16 octets to the end
pub data Row : Type 0 where
  makes : Line → Row
  ◌⇒◌ : (k : Kind) → (Said k → Row) → Row
  blocks : (List (List ℕ) → Line) → Row

pub record Form : Type 0 where
  pub counts : ℕ → Bool
  pub row : Row

abbrev pub form : (ℕ → Bool) → Row → Form
form counts row = record { counts = counts; row = row }

-- so many words
abbrev pub just : ℕ → ℕ → Bool
just count words = words == count

-- a word, or more
abbrev pub some : ℕ → Bool
some words = nat_lt 0 words

-- the one form behind a keyword, and so many words
abbrev pub only : ℕ → Row → List Form
only count row = form (just count) row ∷ []

-- the form behind `draws` and this word
abbrev pub draws_form : List ℕ → Option Form
draws_form second =
    if is_word second (codes "count") then Some (form (just 0) (makes DrawsCount))
    else if is_word second (codes "chacha") then
    Some (form (just 1) (exactly 32 ⇒ λ key. makes (DrawsChaCha key)))
    else if is_word second (codes "list") then Some (form some (blocks DrawsList))
    else None

-- the forms behind another keyword; the second frame of `feed` is not below its first
abbrev pub forms_of : Keyword → List Form
forms_of keys.Draws = []
forms_of keys.Conf = only 1 (bit ⇒ λ b. makes (Conf b))
forms_of keys.Window = only 1 (window ⇒ λ w. makes (Window w))
forms_of keys.Rekey = only 1 (rekey ⇒ λ r. makes (Rekey r))
forms_of keys.Lag = only 1 (lag ⇒ λ l. makes (Lag l))
forms_of keys.Suite = only 1 (suite ⇒ λ s. makes (Suite s))
forms_of keys.Flag = only 1 (bit ⇒ λ f. makes (Flag (f == 1)))
forms_of keys.Group = only 2 (secret ⇒ λ cak. key_name ⇒ λ ckn. makes (Group cak ckn))
forms_of keys.Station =
    only 3
    (name ⇒ λ n. exactly 8 ⇒ λ sci. priority ⇒ λ p. makes (Station n (record { 0 = sci }) p))
forms_of keys.Tick =
    form (just 1) (ticks ⇒ λ rounds. makes (Tick rounds))
    ∷ form (just 2) (name ⇒ λ n. ticks ⇒ λ count. makes (TickOne n count))
    ∷ []
forms_of keys.Flow = only 1 (ticks ⇒ λ rounds. makes (Flow rounds))
forms_of keys.Deliver = only 2 (frame ⇒ λ k. name ⇒ λ n. makes (Deliver k n))
forms_of keys.Spread = only 1 (frame ⇒ λ k. makes (Spread k))
forms_of keys.Lose = only 1 (frame ⇒ λ k. makes (Lose k))
forms_of keys.Cut = only 2 (name ⇒ λ from. name ⇒ λ to. makes (Cut from to))
forms_of keys.Mend = only 2 (name ⇒ λ from. name ⇒ λ to. makes (Mend from to))
forms_of keys.Restart = only 1 (name ⇒ λ n. makes (Restart n))
forms_of keys.Send =
    only 3 (name ⇒ λ n. address ⇒ λ to. body ⇒ λ b. makes (Send n (record { 0 = to }) b))
forms_of keys.Race = only 0 (makes Race)
forms_of keys.Burst =
    only 5
    (name ⇒ λ n. workers ⇒ λ w. burst ⇒ λ count. address ⇒ λ to. body ⇒ λ b.
    makes (Burst n w count (record { 0 = to }) b))
forms_of keys.While = only 0 (makes While)
forms_of keys.End = only 0 (makes End)
forms_of keys.Inject = only 2 (name ⇒ λ n. injected ⇒ λ xs. makes (Inject n xs))
forms_of keys.Feed =
    only 3 (frame ⇒ λ first. frame_from first ⇒ λ last. name ⇒ λ n. makes (Feed first last n))
