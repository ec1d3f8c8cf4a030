use Rattle.std.proofs.Common.{◌≡◌, take}
use Rattle.std.specs.List.{list_all}
use Rattle.transcript.specs.inside.Reading.{is_small_digit}
use Rattle.transcript.proofs.spelling.are_small_digits.Given as goal

abbrev pub invariant-loop-octet : goal.invariant-loop-octet
invariant-loop-octet l = l.all ≡ list_all is_small_digit (take l.octet-index l.word)
