use Rattle.std.proofs.Common.{◌≡◌, take}
use Rattle.std.specs.Str.Parse.{AllDigits, digits_value}
use Rattle.transcript.proofs.spelling.summed.Given as goal

abbrev pub invariant-loop-octet : goal.invariant-loop-octet
invariant-loop-octet l = AllDigits 10 (take l.octet-index l.word) × (l.sum ≡ digits_value 10 (take l.octet-index l.word))
