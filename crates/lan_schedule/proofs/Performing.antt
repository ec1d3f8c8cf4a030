-- A line is performed by the places of its names.
use Rattle.std.proofs.Common.{◌≡◌, ◌≤◌, ℕ, nat_eq, List, length, ap, ◌∙◌, arith}
use Rattle.std.specs.Prelude.{Result}
use Rattle.std.specs.List.{position_or_len}
use Rattle.std.specs.Cmp.Lexicographic.{pointwise}
use Rattle.trace_text.specs.declared.line.Line.{Line}
use Rattle.trace_acts.specs.declared.halt.Halt.{Halt}
use Rattle.lan_base.specs.declared.sink.Unwritten.{Unwritten}
use Rattle.lan_schedule.specs.declared.stage.Stage.{Stage}
use Rattle.lan_schedule.specs.World.{World, place}
use Rattle.lan_schedule.specs.Acts.{Act, look}
use Rattle.lan_schedule.specs.Lines.{deed}
use Rattle.lan_schedule.specs.Sound.{IsTidy}
use Rattle.lan_schedule.specs.Reports.{Report}
use Rattle.lan_schedule.specs.Ends.{Moment}
use Rattle.lan_schedule.specs.inside.Staged.{Did}
use Rattle.lan_schedule.specs.Stages.{StandsFor}
use Rattle.lan_schedule.proofs.Doing.{look-leads}
use Rattle.lan_schedule.proofs.Looking.{stations-few}

-- the place that a name has among those of a group at work
abbrev pub Places : Stage → List ℕ → ℕ → Type 0
Places stage name s = length stage.lan.names ≤ 255
    → s ≡ position_or_len (pointwise nat_eq name) stage.lan.names

pub place-is : (w : World) (stage : Stage) (name : List ℕ) (s : ℕ) → StandsFor w stage → IsTidy w
    → Places stage name s → s ≡ place w name
place-is w stage name s stands tidy is =
    let few = stations-few w stage stands tidy in
    let at : s ≡ position_or_len (pointwise nat_eq name) stage.lan.names = is (omega arith) in
    at ∙ ap (λ (names : List (List ℕ)). position_or_len (pointwise nat_eq name) names) stands.lan.names

module _ {K : Type 0} {Took : K → Report → K → Type 0} {Broke : K → Report → K → Unwritten → Type 0}
  where
    pub same-line : (line : Line) (act : Act) (old new : Moment Stage K) (r : Result (Unit {0}) Halt)
        → ((w : World) → act ≡ deed line w) → Did Took Broke act old new r
        → Did Took Broke (look (λ w. deed line w)) old new r
    same-line line act old new r same d =
        (look-leads (λ w. deed line w) act old (λ w stands tidy. same w)).leads new r d
