-- A group at work stands for the same world where few of its fields changed.
use Rattle.std.proofs.Common.{◌≡◌, ℕ, Bool, true, List, length, refl, sym, ap, ◌∙◌, subst}
use Rattle.std.specs.Prelude.{is_some}
use Rattle.lan_base.specs.declared.frame.UserFrame.{UserFrame}
use Rattle.association_slots.specs.Views.{ControlAt}
use Rattle.lan_core.specs.declared.settings.Settings.{Settings}
use Rattle.lan_core.specs.Run.{Run}
use Rattle.lan_core.specs.Standing.{State, StandsFor as GroupStandsFor}
use Rattle.worker_races.specs.Carded.{AreCarded}
use Rattle.trace_acts.specs.declared.links.Link.{Link}
use Rattle.trace_acts.specs.Supply.{supply_nth}
use Rattle.lan_schedule.specs.declared.stage.Stage.{Stage}
use Rattle.lan_schedule.specs.World.{World, settings, is_racing}
use Rattle.lan_schedule.specs.Stages.{StandsWith}

-- all but lines, users, links and words is as before
pub record IsSame (old new : Stage) : Type 0 where
  pub lag : new.lag ≡ old.lag
  pub lan : new.lan ≡ old.lan
  pub draws : new.draws ≡ old.draws
  pub frames : new.frames ≡ old.frames
  pub tally : new.tally ≡ old.tally
  pub raced : new.raced ≡ old.raced
  pub steps : new.steps ≡ old.steps

pub same-self : (stage : Stage) → IsSame stage stage
same-self stage = record {
  lag = refl;
  lan = refl;
  draws = refl;
  frames = refl;
  tally = refl;
  raced = refl;
  steps = refl;
}

module _ {A B : Bool → Bool → Settings → Run → List ControlAt → Type 0} where
  -- another line, other users, links and words
  pub stands-with : (w : World) (line : ℕ) (users : List UserFrame) (cuts : List Link)
      (begun : Bool) (old new : Stage) → StandsWith A w old → IsSame old new → new.line ≡ line
      → new.users ≡ length users → new.cuts ≡ cuts → begun ≡ true
      → GroupStandsFor (settings w) users old.lan w.run
      → B w.kept.raced (is_racing w.kept.phase) (settings w) w.run new.words
      → AreCarded (settings w) w.run new.words
      → StandsWith B (record w {
        kept = record w.kept { line = line; users = users; cuts = cuts; begun = begun };
      }) new
  stands-with w line users cuts begun old new stands same is_line is_users is_cuts is_begun lan
      words cards = record {
        begun = is_begun;
        raced = same.raced ∙ stands.raced;
        keyed = stands.keyed;
        line = is_line;
        lag = same.lag ∙ stands.lag;
        lan = subst (λ (l : State). GroupStandsFor (settings w) users l w.run) (sym same.lan) lan;
        draws = λ k. ap (λ draws. supply_nth draws k) same.draws ∙ stands.draws k;
        users = is_users;
        flow = same.frames ∙ stands.flow;
        cuts = is_cuts;
        words = words;
        cards = cards;
        tally = same.tally ∙ stands.tally;
        steps = ap (λ steps. is_some steps) same.steps ∙ stands.steps;
      }

  -- other words
  pub stands-moved : (w : World) (old new : Stage) → IsSame old new → new.line ≡ old.line
      → new.users ≡ old.users → new.cuts ≡ old.cuts
      → B w.kept.raced (is_racing w.kept.phase) (settings w) w.run new.words
      → AreCarded (settings w) w.run new.words → StandsWith A w old → StandsWith B w new
  stands-moved w old new same line users cuts words cards stands =
      stands-with w w.kept.line w.kept.users w.kept.cuts w.kept.begun old new stands same
      (line ∙ stands.line) (users ∙ stands.users) (cuts ∙ stands.cuts) stands.begun stands.lan words
      cards
