-- A part of what is written.
use Rattle.std.proofs.Common.{◌≡◌, ◌∙◌, ◌<◌, ℕ, List, ◌++◌, take, drop, length, arith, length-drop}
use Rattle.std.specs.Prelude.{Option}
use Rattle.std.proofs.lemmas.List.{take-append-drop}
use Rattle.lan_base.specs.Told.{after}

pub part-written : (piece text : List ℕ) (held then : Option (List ℕ)) → piece ≡ text
    → (n : ℕ) × (n < length piece) × (then ≡ after held (take n piece))
    → (more : List ℕ) × (rest : List ℕ) × (0 < length rest) × (more ++ rest ≡ text) × (then ≡ after held more)
part-written piece text held then e part =
    let less = part.1 in
    (take part.0 piece, drop part.0 piece, omega (arith, less, length-drop part.0 piece), take-append-drop part.0 piece ∙ e, part.2)
