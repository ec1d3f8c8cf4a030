-- Which lines a group at work refuses, and which deeds the others are.
use Rattle.std.proofs.Common.{◌≡◌, ◌≤◌, ℕ, Bool, true, false, List, length, Some, None, refl}
use Rattle.std.proofs.Common.{sym, ap, ◌∙◌, arith}
use Rattle.std.specs.Prelude.{map, Option, Ok, Err, is_some}
use Rattle.std.specs.Option.{option_or}
use Rattle.lan_base.specs.declared.address.Sci.{Sci}
use Rattle.lan_core.specs.Run.{stations}
use Rattle.lan_core.specs.Standing.{scis_in}
use Rattle.lan_core.proofs.Public.{same-scis}
use Rattle.trace_text.specs.declared.line.Line.{Line}
use Rattle.trace_text.specs.declared.line.Line.TheVariants as lines
use Rattle.trace_acts.specs.declared.choices.Choices.{Choices}
use Rattle.trace_acts.specs.declared.halt.Kind.{Kind}
use Rattle.trace_acts.specs.declared.halt.Kind.TheVariants as kinds
use Rattle.trace_acts.specs.Names.{names_of, scis_of}
use Rattle.trace_acts.specs.Kinds.{first_of, is_allowed, or_else}
use Rattle.trace_acts.specs.Places.{is_race}
use Rattle.trace_acts.proofs.Public.{map-map-scis}
use Rattle.lan_schedule.specs.declared.deed.Deed.{Deed}
use Rattle.lan_schedule.specs.declared.stage.Stage.{Stage}
use Rattle.lan_schedule.specs.World.{World, Flow, settings}
use Rattle.lan_schedule.specs.Deeds.{deed_in, deed_of}
use Rattle.lan_schedule.specs.Kinds.{wrong_word}
use Rattle.lan_schedule.specs.Ends.{IsReached}
use Rattle.lan_schedule.specs.inside.Phased.{Resolves, refusal_apart}
use Rattle.lan_schedule.specs.Stages.{StandsFor}
use Rattle.lan_schedule.proofs.Looking.{stations-few}

-- the first of two reasons
pub or-is : (a b : Option Kind) → option_or a b ≡ or_else a b
or-is None b = refl
or-is (Some kind) b = refl

-- a deed by the names of a group at work is that of the line
pub deed-at : (line : Line) (w : World) (stage : Stage) (o : Option Deed)
    → IsReached StandsFor w stage
    → (length stage.lan.names ≤ 255 → o ≡ deed_in line stage.lan.names) → deed_of line w ≡ o
deed-at line w stage o reached is =
    let few = stations-few w stage reached.stands reached.tidy in
    sym (is (omega arith)
    ∙ ap (λ (names : List (List ℕ)). deed_in line names) reached.stands.lan.names)

-- a line that begins no race may stand behind a station where it has a deed
deed-allowed : (line : Line) (names : List (List ℕ)) (chosen : Choices)
    → is_some chosen.group ≡ true → is_race line ≡ false
    → is_allowed line true chosen ≡ is_some (deed_in line names)
deed-allowed (lines.Station name sci priority) names chosen keyed isnt = keyed
deed-allowed lines.Race names chosen keyed isnt = absurd (cc isnt)
deed-allowed _ names chosen keyed isnt = refl

-- the first reason, from what the group has
refusal-by : (line : Line) (w : World) (stage : Stage) (o : Option Deed) → StandsFor w stage
    → is_race line ≡ false → deed_of line w ≡ o
    → first_of (is_some o) (wrong_word o stage.lan.names
    (map (λ (s : Sci). s.0) (scis_in stage.lan)) (length stage.frames.frames)) ≡ refusal_apart line w
refusal-by line w stage o stands isnt is =
    let allowed : is_some (deed_of line w) ≡ is_allowed line w.kept.begun w.kept.chosen =
    sym (deed-allowed line (names_of w.run) w.kept.chosen stands.keyed isnt)
    ∙ ap (λ (b : Bool). is_allowed line b w.kept.chosen) (sym stands.begun) in
    let scis : map (λ (s : Sci). s.0) (scis_in stage.lan) ≡ scis_of w.run =
    ap (λ l. map (λ (s : Sci). s.0) l)
    (same-scis (settings w) w.kept.users stage.lan w.run stands.lan) ∙ map-map-scis (stations w.run) in
    ap (λ (l : List (List ℕ)). first_of (is_some o)
    (wrong_word o l (map (λ (s : Sci). s.0) (scis_in stage.lan)) (length stage.frames.frames)))
    stands.lan.names
    ∙ ap (λ (l : List (List ℕ)). first_of (is_some o)
    (wrong_word o (names_of w.run) l (length stage.frames.frames))) scis
    ∙ ap (λ (f : Flow). first_of (is_some o)
    (wrong_word o (names_of w.run) (scis_of w.run) (length f.frames))) stands.flow
    ∙ ap (λ (d : Option Deed). first_of (is_some d)
    (wrong_word d (names_of w.run) (scis_of w.run) (length w.kept.frames))) (sym is)
    ∙ ap (λ (b : Bool). first_of b
    (wrong_word (deed_of line w) (names_of w.run) (scis_of w.run) (length w.kept.frames))) allowed

-- a line without a deed isn't allowed
pub resolves-none : (line : Line) (w : World) (stage : Stage) → IsReached StandsFor w stage
    → is_race line ≡ false → deed_of line w ≡ None → Resolves line w (Err kinds.Order)
resolves-none line w stage reached isnt is = sym (refusal-by line w stage None reached.stands isnt is)

-- a line with a deed is refused where a word is wrong
pub resolves-err : (line : Line) (w : World) (stage : Stage) (d : Deed) (kind : Kind)
    → IsReached StandsFor w stage → is_race line ≡ false → deed_of line w ≡ Some d
    → wrong_word (Some d) stage.lan.names (map (λ (s : Sci). s.0) (scis_in stage.lan))
    (length stage.frames.frames) ≡ Some kind
    → Resolves line w (Err kind)
resolves-err line w stage d kind reached isnt is wrong =
    sym (refusal-by line w stage (Some d) reached.stands isnt is) ∙ wrong

pub resolves-ok : (line : Line) (w : World) (stage : Stage) (d : Deed)
    → IsReached StandsFor w stage → is_race line ≡ false → deed_of line w ≡ Some d
    → wrong_word (Some d) stage.lan.names (map (λ (s : Sci). s.0) (scis_in stage.lan))
    (length stage.frames.frames) ≡ None
    → Resolves line w (Ok d)
resolves-ok line w stage d reached isnt is right =
    (sym (refusal-by line w stage (Some d) reached.stands isnt is) ∙ right, is)
