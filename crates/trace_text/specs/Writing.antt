-- How a line is written.
use Rattle.std.specs.Prelude.{ℕ, ◌<◌, if◌then◌else◌, List, [], ◌∷◌, ◌++◌, length, map, codes}
use Rattle.trace_text.specs.Words.{spaced}
use Rattle.trace_text.specs.Kinds.{Kind, Said, spelled, IsFit, name, secret, exactly, suite, bit, window, rekey, lag, key_name, priority, ticks, frame, frame_from, workers, burst, address, body, injected}
use Rattle.trace_text.specs.declared.line.Line.{Line}
use Rattle.trace_text.specs.declared.line.Line.TheVariants.{DrawsCount, DrawsChaCha, DrawsList, Conf, Window, Rekey, Lag, Suite, Flag, Group, Station, Tick, TickOne, Flow, Deliver, Spread, Lose, Cut, Mend, Restart, Send, Race, Burst, While, End, Inject, Feed}

-- a word of a kind, and what it says
pub record Field : Type 0 where
  pub kind : Kind
  pub says : Said kind

infix 68 ◌∶◌
abbrev pub ◌∶◌ : (k : Kind) → Said k → Field
k ∶ says = record { kind = k; says = says }

-- the words that a line begins with
abbrev pub first_words : Line → List ℕ
first_words DrawsCount = codes "draws count"
first_words (DrawsChaCha key) = codes "draws chacha"
first_words (DrawsList values) = codes "draws list"
first_words (Conf b) = codes "conf"
first_words (Window w) = codes "window"
first_words (Rekey r) = codes "rekey"
first_words (Lag l) = codes "lag"
first_words (Suite s) = codes "suite"
first_words (Flag early) = codes "flag"
first_words (Group cak ckn) = codes "group"
first_words (Station n sci p) = codes "station"
first_words (Tick rounds) = codes "tick"
first_words (TickOne n count) = codes "tick"
first_words (Flow rounds) = codes "flow"
first_words (Deliver k n) = codes "deliver"
first_words (Spread k) = codes "spread"
first_words (Lose k) = codes "lose"
first_words (Cut from to) = codes "cut"
first_words (Mend from to) = codes "mend"
first_words (Restart n) = codes "restart"
first_words (Send n to b) = codes "send"
first_words Race = codes "race"
first_words (Burst n w count to b) = codes "burst"
first_words While = codes "while"
first_words End = codes "end"
first_words (Inject n xs) = codes "inject"
first_words (Feed first last n) = codes "feed"

-- the further words of a line
abbrev pub fields : Line → List Field
fields DrawsCount = []
fields (DrawsChaCha key) = exactly 32 ∶ key ∷ []
fields (DrawsList values) = map (λ value. exactly 16 ∶ value) values
fields (Conf b) = bit ∶ b ∷ []
fields (Window w) = window ∶ w ∷ []
fields (Rekey r) = rekey ∶ r ∷ []
fields (Lag l) = lag ∶ l ∷ []
fields (Suite s) = suite ∶ s ∷ []
fields (Flag early) = bit ∶ (if early then 1 else 0) ∷ []
fields (Group cak ckn) = secret ∶ cak ∷ key_name ∶ ckn ∷ []
fields (Station n sci p) = name ∶ n ∷ exactly 8 ∶ sci.0 ∷ priority ∶ p ∷ []
fields (Tick rounds) = ticks ∶ rounds ∷ []
fields (TickOne n count) = name ∶ n ∷ ticks ∶ count ∷ []
fields (Flow rounds) = ticks ∶ rounds ∷ []
fields (Deliver k n) = frame ∶ k ∷ name ∶ n ∷ []
fields (Spread k) = frame ∶ k ∷ []
fields (Lose k) = frame ∶ k ∷ []
fields (Cut from to) = name ∶ from ∷ name ∶ to ∷ []
fields (Mend from to) = name ∶ from ∷ name ∶ to ∷ []
fields (Restart n) = name ∶ n ∷ []
fields (Send n to b) = name ∶ n ∷ address ∶ to.0 ∷ body ∶ b ∷ []
fields Race = []
fields (Burst n w count to b) =
    name ∶ n ∷ workers ∶ w ∷ burst ∶ count ∷ address ∶ to.0 ∷ body ∶ b ∷ []
fields While = []
fields End = []
fields (Inject n xs) = name ∶ n ∷ injected ∶ xs ∷ []
fields (Feed first last n) = frame ∶ first ∷ frame_from first ∶ last ∷ name ∶ n ∷ []

-- each of these words can say what it is to say
abbrev pub AllFit : List Field → Type 0
AllFit [] = Unit {0}
AllFit (field ∷ others) = IsFit field.kind field.says × AllFit others

-- a list of draws has one at least
abbrev pub IsListed : Line → Type 0
IsListed (DrawsList values) = 0 < length values
IsListed _ = Unit {0}

-- each word of a line is inside its form
pub record IsInForm (line : Line) : Type 0 where
  pub fits : AllFit (fields line)
  pub listed : IsListed line

-- the text of a line, without a line ending
unfoldable pub written : Line → List ℕ
written line =
    first_words line ++ spaced (map (λ field. spelled field.kind field.says) (fields line))
