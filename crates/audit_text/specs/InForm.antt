-- Lines whose words are inside their forms.
use Rattle.trace_text.specs.Kinds.{IsFit, key_name, secret}
use Rattle.audit_text.specs.declared.line.KeyLine.{KeyLine}
use Rattle.audit_text.specs.declared.line.KeyLine.TheVariants.{Capture, Group, Sak}
use Rattle.audit_text.specs.declared.line.Sender.{Sender}
use Rattle.audit_text.specs.declared.line.Sender.TheVariants.{Any, One}
use Rattle.audit_text.specs.Forms.{association, identifier}

abbrev pub IsFitSender : Sender → Type 0
IsFitSender Any = Unit {0}
IsFitSender (One sci) = IsFit identifier sci.0

-- each word of a line is inside its form
abbrev pub IsInFormKey : KeyLine → Type 0
IsInFormKey (Group cak ckn) = IsFit secret cak × IsFit key_name ckn
IsInFormKey (Sak sender an sak) = IsFitSender sender × IsFit association an × IsFit secret sak
IsInFormKey Capture = Unit {0}
