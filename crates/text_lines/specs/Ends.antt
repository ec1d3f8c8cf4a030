-- What the ends of reading are to who takes what was read, and to who writes of it.
use Rattle.std.specs.Prelude.{ℕ}
use Rattle.lan_base.specs.declared.source.ReadEnd.{ReadEnd}
use Rattle.lan_base.specs.declared.source.ReadEnd.TheVariants as readings
use Rattle.text_lines.specs.declared.reading.End.{End}
use Rattle.text_lines.specs.declared.reading.End.TheVariants as ends
use Rattle.text_lines.specs.declared.unfinished.Unfinished.{Unfinished}
use Rattle.text_lines.specs.declared.unfinished.Unfinished.TheVariants as unfinished

-- of reading octets
abbrev pub end_of : {E : Type 0} → ReadEnd → End E
end_of readings.Limit = ends.Limit
end_of readings.Failed = ends.ReadFault
end_of readings.Memory = ends.Memory

-- of reading what can be refused at a place
abbrev pub unfinished_by : {F : Type 0} → End (ℕ × F) → Unfinished F
unfinished_by (ends.Refused (at, why)) = unfinished.Refused at why
unfinished_by ends.Memory = unfinished.Memory
unfinished_by ends.ReadFault = unfinished.ReadFault
unfinished_by ends.Limit = unfinished.Limit
