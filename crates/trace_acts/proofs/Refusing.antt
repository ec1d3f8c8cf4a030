-- What a line is not refused for.
use Rattle.std.proofs.Common.{◌≡◌, Bool, true, false, Option, Some, None, refl}
use Rattle.std.specs.Prelude.{not, ◌&&◌, is_some}
use Rattle.trace_text.specs.declared.line.Line.{Line}
use Rattle.trace_text.specs.declared.line.Line.TheVariants as lines
use Rattle.trace_acts.specs.declared.choices.Choices.{Choices}
use Rattle.trace_acts.specs.declared.halt.Kind.{Kind}
use Rattle.trace_acts.specs.Kinds.{is_allowed, or_else, where_}
use Rattle.trace_acts.specs.Places.{IsStation, is_elsewhere}

pub or-none : (a b : Option Kind) → or_else a b ≡ None → (a ≡ None) × (b ≡ None)
or-none None b e = (refl, e)
or-none (Some kind) b e = absurd (cc e)

pub where-none : (test : Bool) (kind : Kind) → where_ test kind ≡ None → test ≡ false
where-none true kind e = absurd (cc e)
where-none false kind e = refl

pub not-false : (b : Bool) → not b ≡ false → b ≡ true
not-false true e = refl
not-false false e = absurd (cc e)

pub unbegun-by : (a b : Bool) → (not a && b) ≡ true → a ≡ false
unbegun-by true b e = absurd (cc e)
unbegun-by false b e = refl

pub allowed-then : (line : Line) (chosen : Choices) → is_some chosen.group ≡ true
    → is_allowed line true chosen ≡ not (is_elsewhere line)
allowed-then lines.DrawsCount chosen keyed = refl
allowed-then (lines.DrawsChaCha key) chosen keyed = refl
allowed-then (lines.DrawsList values) chosen keyed = refl
allowed-then (lines.Conf conf) chosen keyed = refl
allowed-then (lines.Window window) chosen keyed = refl
allowed-then (lines.Rekey rekey) chosen keyed = refl
allowed-then (lines.Lag lag) chosen keyed = refl
allowed-then (lines.Suite suite) chosen keyed = refl
allowed-then (lines.Flag early) chosen keyed = refl
allowed-then (lines.Group cak ckn) chosen keyed = refl
allowed-then (lines.Station name sci priority) chosen keyed = keyed
allowed-then (lines.Burst name workers frames destination body) chosen keyed = refl
allowed-then lines.While chosen keyed = refl
allowed-then lines.End chosen keyed = refl
allowed-then _ chosen keyed = refl

-- a line that starts a station stands behind the first ones
pub station-later : (line : Line) → IsStation line → is_elsewhere line ≡ false
station-later (lines.Station name sci priority) station = refl
station-later lines.DrawsCount station = absurd station
station-later (lines.DrawsChaCha key) station = absurd station
station-later (lines.DrawsList values) station = absurd station
station-later (lines.Conf conf) station = absurd station
station-later (lines.Window window) station = absurd station
station-later (lines.Rekey rekey) station = absurd station
station-later (lines.Lag lag) station = absurd station
station-later (lines.Suite suite) station = absurd station
station-later (lines.Flag early) station = absurd station
station-later (lines.Group cak ckn) station = absurd station
station-later (lines.Burst name workers frames destination body) station = absurd station
station-later lines.While station = absurd station
station-later lines.End station = absurd station
station-later _ station = refl
