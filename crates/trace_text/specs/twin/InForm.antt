-- Lines whose words are inside their forms.
use Rattle.trace_text.specs.declared.line.Line.{Line}
use Rattle.trace_text.specs.declared.line.Line.TheVariants.{Lag, Deliver, Spread, Lose, Race, Burst, While, End, Inject, Feed}
use Rattle.trace_text.specs.Kinds.{IsFit, name, secret, key_name}
use Rattle.trace_text.specs.Writing.{IsInForm}
use Rattle.trace_text.specs.declared.twin.line.RollLine.{RollLine}
use Rattle.trace_text.specs.declared.twin.line.RollLine.TheVariants.{Plain, Group2, Adopt, Leave}
use Rattle.trace_text.specs.twin.Forms.{group_number}

-- a line of one group that a trace of two groups has too: none that says how frames go, or of a race
abbrev pub IsShared : Line → Type 0
IsShared (Lag l) = ⊥
IsShared (Deliver k n) = ⊥
IsShared (Spread k) = ⊥
IsShared (Lose k) = ⊥
IsShared Race = ⊥
IsShared (Burst n w count to b) = ⊥
IsShared While = ⊥
IsShared End = ⊥
IsShared (Inject n xs) = ⊥
IsShared (Feed first last n) = ⊥
IsShared _ = Unit {0}

-- each word of a line is inside its form, and a line of one group is shared
abbrev pub IsInFormRoll : RollLine → Type 0
IsInFormRoll (Plain line) = IsInForm line × IsShared line
IsInFormRoll (Group2 cak ckn) = IsFit secret cak × IsFit key_name ckn
IsInFormRoll (Adopt n) = IsFit name n
IsInFormRoll (Leave group n) = IsFit group_number group × IsFit name n
