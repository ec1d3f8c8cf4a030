-- Blocks that are read one after another.
use Rattle.std.proofs.Common.{◌≡◌, ℕ, List, [], ◌∷◌, ◌++◌}
use Rattle.std.specs.Prelude.{Result, Ok}
use Rattle.trace_text.specs.declared.fault.TextFault.{TextFault}
use Rattle.trace_text.specs.Reading.{◌>>=◌}

-- these blocks, and those that are read behind them
abbrev pub onto : List (List ℕ) → Result (List (List ℕ)) TextFault → Result (List (List ℕ)) TextFault
onto blocks rest = do
  others ← rest
  Ok (blocks ++ others)
