-- When keys are held, and when they transmit.
use Rattle.std.specs.Prelude.{ℕ, Bool, ◌≡◌, ◌≤◌, ◌&&◌, IsTrue, is_some, is_none, Some}
use Rattle.key_spans.specs.declared.span.End.{End}
use Rattle.key_spans.specs.declared.span.Span.{Span}

-- a key was held no more at this time
pub record HasEndedAt (at : ℕ) (span : Span) : Type 0 where
  pub end : End
  pub ended : span.ended ≡ Some end
  pub before : end.at ≤ at

-- a key is held
abbrev pub is_held : Span → Bool
is_held span = is_none span.ended

-- it began to transmit, no other one began in its place, and it is held
abbrev pub is_transmitting : Span → Bool
is_transmitting span = is_some span.began && (is_none span.relieved && is_held span)

abbrev pub Transmits : Span → Type 0
Transmits span = IsTrue (is_transmitting span)
