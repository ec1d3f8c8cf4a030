-- Lines whose words are inside their forms.
use Rattle.trace_text.specs.declared.line.Line.{Line}
use Rattle.trace_text.specs.declared.line.Line.TheVariants.{DrawsCount, DrawsChaCha, DrawsList, Conf, Rekey, Suite, Flag, Group, Restart}
use Rattle.trace_text.specs.Kinds.{IsFit, name, exactly, priority}
use Rattle.trace_text.specs.Writing.{IsInForm}
use Rattle.member_text.specs.declared.line.MemberLine.{MemberLine}
use Rattle.member_text.specs.declared.line.MemberLine.TheVariants.{Plain, Member, Tick, Hear}
use Rattle.member_text.specs.Forms.{next_number, lowest_number, heard}

-- a line of a trace that a member's input has too
abbrev pub IsShared : Line → Type 0
IsShared DrawsCount = Unit {0}
IsShared (DrawsChaCha key) = Unit {0}
IsShared (DrawsList values) = Unit {0}
IsShared (Conf b) = Unit {0}
IsShared (Rekey r) = Unit {0}
IsShared (Suite s) = Unit {0}
IsShared (Flag early) = Unit {0}
IsShared (Group cak ckn) = Unit {0}
IsShared (Restart n) = Unit {0}
IsShared _ = ⊥

-- each word of a line is inside its form, and a line of a trace is shared
abbrev pub IsInFormMember : MemberLine → Type 0
IsInFormMember (Plain line) = IsInForm line × IsShared line
IsInFormMember (Member n sci p) = IsFit name n × IsFit (exactly 8) sci.0 × IsFit priority p
IsInFormMember (Tick next latest old) =
    IsFit next_number next × IsFit lowest_number latest × IsFit lowest_number old
IsInFormMember (Hear octets) = IsFit heard octets
