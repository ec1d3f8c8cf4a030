-- Which lines the groups at work refuse.
use Rattle.std.proofs.Common.{◌≡◌, ℕ, Bool, true, List, Option, Some, None, refl, sym, ap, ◌∙◌, arith}
use Rattle.std.specs.Prelude.{IfNone, is_some, map, not}
use Rattle.std.specs.Option.{option_or}
use Rattle.lan_base.specs.declared.address.Sci.{Sci}
use Rattle.lan_core.specs.Run.{stations}
use Rattle.cak_roll.specs.declared.event.GroupNumber.TheVariants.{First}
use Rattle.cak_roll.specs.Twin.{run_of}
use Rattle.trace_text.specs.declared.line.Line.{Line}
use Rattle.trace_text.specs.declared.twin.line.RollLine.{RollLine}
use Rattle.trace_text.specs.declared.twin.line.RollLine.TheVariants.{Plain}
use Rattle.trace_acts.specs.declared.choices.Choices.{Choices}
use Rattle.trace_acts.specs.declared.halt.Kind.{Kind}
use Rattle.trace_acts.specs.declared.halt.Kind.TheVariants as kinds
use Rattle.trace_acts.specs.Kinds.{first_of, is_allowed, or_else, unknown, where_}
use Rattle.trace_acts.specs.Choosing.{chosen_by}
use Rattle.trace_acts.specs.Names.{is_in}
use Rattle.trace_acts.specs.Places.{is_elsewhere}
use Rattle.trace_acts.proofs.Public.{allowed-then, map-map-scis}
use Rattle.twin_schedule.specs.declared.stage.Stage.{Stage}
use Rattle.twin_schedule.specs.World.{names, place, scis, World}
use Rattle.twin_schedule.specs.Kinds.{may_be_second, may_stand, refusal, wrong}
use Rattle.twin_schedule.specs.Ends.{IsReached}
use Rattle.twin_schedule.specs.Stages.{StandsFor}
use Rattle.twin_schedule.proofs.Looking.{Places, place-is}

pub if-none : (o : Option Kind) (A : Type 0) → A → IfNone o A
if-none None A a = a
if-none (Some kind) A a = tt

or-is : (a b : Option Kind) → option_or a b ≡ or_else a b
or-is None b = refl
or-is (Some kind) b = refl

-- ---- where lines stand

pub refused-first : (line : RollLine) (w : World) (b : Bool) (o : Option Kind)
    → b ≡ may_stand line w → o ≡ first_of b (wrong line w) → o ≡ refusal line w
refused-first line w b o is first = first ∙ ap (λ (b : Bool). first_of b (wrong line w)) is

pub plain-stands : (line : Line) (w : World) (stage : Stage) (b : Bool) → b ≡ is_elsewhere line
    → StandsFor w stage → not b ≡ may_stand (Plain line) w
plain-stands line w stage b is stands =
    ap not is ∙ sym (allowed-then line w.kept.chosen stands.named)
    ∙ ap (λ (begun : Bool). is_allowed line begun w.kept.chosen) (sym stands.begun)

pub second-stands : (ckn : List ℕ) (w : World) (stage : Stage) (b : Bool)
    → b ≡ may_be_second ckn stage.chosen.group stage.keyed → StandsFor w stage
    → b ≡ may_be_second ckn w.kept.chosen.group w.kept.second
second-stands ckn w stage b is stands =
    is ∙ ap (λ chosen. may_be_second ckn chosen.group stage.keyed) stands.chosen
    ∙ ap (λ keyed. may_be_second ckn w.kept.chosen.group keyed) stands.keyed

pub adopt-stands : (w : World) (stage : Stage) (b : Bool)
    → b ≡ is_some stage.keyed → StandsFor w stage → b ≡ is_some w.kept.second
adopt-stands w stage b is stands = is ∙ ap (λ keyed. is_some keyed) stands.keyed

-- ---- names

-- no station has this name, by the names that the groups at work have
unknown-is : (name : List ℕ) (w : World) (stage : Stage) → StandsFor w stage
    → unknown name stage.first.names.items ≡ unknown name (names w)
unknown-is name w stage stands = ap (λ l. unknown name l) stands.first_party.names

pub one-unknown : (name : List ℕ) (w : World) (stage : Stage) (o : Option Kind)
    → o ≡ unknown name stage.first.names.items → StandsFor w stage → o ≡ unknown name (names w)
one-unknown name w stage o is stands = is ∙ unknown-is name w stage stands

pub two-unknown : (from to : List ℕ) (w : World) (stage : Stage) (r a b : Option Kind)
    → r ≡ option_or a b → a ≡ unknown from stage.first.names.items
    → b ≡ unknown to stage.first.names.items → StandsFor w stage
    → r ≡ or_else (unknown from (names w)) (unknown to (names w))
two-unknown from to w stage r a b is first second stands =
    is ∙ or-is a b ∙ ap (λ o. or_else o b) (one-unknown from w stage a first stands)
    ∙ ap (λ o. or_else (unknown from (names w)) o) (one-unknown to w stage b second stands)

-- a name that is unknown, or one for which a test holds
pub unknown-or : (name : List ℕ) (test : ℕ → Bool) (w : World) (stage : Stage) (s : ℕ)
    (r a b : Option Kind) (t : Bool) → r ≡ option_or a b → a ≡ unknown name stage.first.names.items
    → b ≡ where_ t kinds.Order → t ≡ test s → Places stage name s → IsReached StandsFor w stage
    → r ≡ or_else (unknown name (names w)) (where_ (test (place w name)) kinds.Order)
unknown-or name test w stage s r a b t is first second holds places reached =
    is ∙ or-is a b ∙ ap (λ o. or_else o b) (one-unknown name w stage a first reached.stands)
    ∙ ap (λ o. or_else (unknown name (names w)) o) (second
    ∙ ap (λ (t : Bool). where_ t kinds.Order) (holds
    ∙ ap test (place-is w stage name s reached places)))

-- a station's name or SCI is taken
pub taken-is : (name : List ℕ) (sci : Sci) (w : World) (stage : Stage)
    (o : Option Kind) → o ≡ or_else (where_ (is_in name stage.first.names.items) kinds.NameTaken)
    (where_ (is_in sci.0 (map (λ (s : Sci). s.0) stage.scis.items)) kinds.SciTaken)
    → StandsFor w stage → o ≡ or_else (where_ (is_in name (names w)) kinds.NameTaken)
    (where_ (is_in sci.0 (scis w)) kinds.SciTaken)
taken-is name sci w stage o is stands =
    is ∙ ap (λ l. or_else (where_ (is_in name l) kinds.NameTaken)
    (where_ (is_in sci.0 (map (λ (s : Sci). s.0) stage.scis.items)) kinds.SciTaken))
    stands.first_party.names
    ∙ ap (λ l. or_else (where_ (is_in name (names w)) kinds.NameTaken)
    (where_ (is_in sci.0 l) kinds.SciTaken))
    (ap (λ l. map (λ (s : Sci). s.0) l) stands.scis
    ∙ map-map-scis (stations (run_of First w.run)))

-- ---- what is chosen

-- a line that may stand behind the first station chooses nothing
pub chooses-nothing : (line : Line) (chosen : Choices) → is_allowed line true chosen ≡ true
    → chosen_by line chosen ≡ chosen
chooses-nothing line chosen allowed = grind arith
