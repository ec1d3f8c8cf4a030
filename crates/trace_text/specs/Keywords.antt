-- The words that lines begin with.
use Rattle.std.specs.Prelude.{ℕ, List, [], ◌∷◌, Option, codes}
use Rattle.std.specs.List.{find}
use Rattle.trace_text.specs.declared.keyword.Keyword.{Keyword}
use Rattle.trace_text.specs.declared.keyword.Keyword.TheVariants.{Draws, Conf, Window, Rekey, Lag, Suite, Flag, Group, Station, Tick, Flow, Deliver, Spread, Lose, Cut, Mend, Restart, Send, Race, Burst, While, End, Inject, Feed}
use Rattle.trace_text.specs.Words.{is_word}

-- how a keyword is spelled
abbrev pub spelling : Keyword → List ℕ
spelling Draws = codes "draws"
spelling Conf = codes "conf"
spelling Window = codes "window"
spelling Rekey = codes "rekey"
spelling Lag = codes "lag"
spelling Suite = codes "suite"
spelling Flag = codes "flag"
spelling Group = codes "group"
spelling Station = codes "station"
spelling Tick = codes "tick"
spelling Flow = codes "flow"
spelling Deliver = codes "deliver"
spelling Spread = codes "spread"
spelling Lose = codes "lose"
spelling Cut = codes "cut"
spelling Mend = codes "mend"
spelling Restart = codes "restart"
spelling Send = codes "send"
spelling Race = codes "race"
spelling Burst = codes "burst"
spelling While = codes "while"
spelling End = codes "end"
spelling Inject = codes "inject"
spelling Feed = codes "feed"

-- all keywords
abbrev pub keywords : List Keyword
keywords =
    Draws ∷ Conf ∷ Window ∷ Rekey ∷ Lag ∷ Suite ∷ Flag ∷ Group ∷ Station ∷ Tick ∷ Flow ∷ Deliver
    ∷ Spread ∷ Lose ∷ Cut ∷ Mend ∷ Restart ∷ Send ∷ Race ∷ Burst ∷ While ∷ End ∷ Inject
    ∷ Feed ∷ []

-- the keyword that a word is
unfoldable pub keyword_of : List ℕ → Option Keyword
keyword_of word = find (λ keyword. is_word word (spelling keyword)) keywords
