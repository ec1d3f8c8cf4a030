-- Control and the workers were beside one another, wherever control came to: the race that they were.
use Rattle.std.proofs.Common.{◌≡◌, Bool, true, false, List, length, ap, subst}
use Rattle.lan_base.specs.declared.frame.UserFrame.{UserFrame}
use Rattle.association_slots.specs.Views.{ControlAt}
use Rattle.lan_core.specs.declared.settings.Settings.{Settings}
use Rattle.lan_core.specs.Run.{Run}
use Rattle.station_words.specs.Ties.{AreTied, HaveCaughtUp, HaveKeptUp}
use Rattle.worker_races.specs.Beside.{Race, WereBeside}
use Rattle.worker_races.specs.Going.{HaveGone}
use Rattle.worker_races.specs.Performed.{ArePerformed, run_after}
use Rattle.trace_acts.specs.Settings.{settings_of}
use Rattle.lan_schedule.specs.declared.race.Ran.{Ran}
use Rattle.lan_schedule.specs.declared.stage.Stage.{Stage}
use Rattle.lan_schedule.specs.Races.{Chance, Numbered, Worker}
use Rattle.lan_schedule.specs.World.{World, is_racing, settings}
use Rattle.lan_schedule.specs.Acts.{begun_race}
use Rattle.lan_schedule.specs.Stages.{Says}
use Rattle.lan_schedule.specs.inside.Beside.{HasRun}
use Rattle.lan_schedule.specs.inside.Comes.{IsSteady}
use Rattle.lan_schedule.proofs.Steered.{IsSteered}

-- outside of a race words have caught up with the run
tells-caught : (settings : Settings) (r : Run) (cs : List ControlAt) → AreTied settings r cs
    → HaveCaughtUp settings r cs
tells-caught settings r cs tied = record {
  many = tied.many;
  each = λ s c at. let tie = tied.each s c at in (
    tie.0,
    tie.1,
    record { all_in = tie.2.all_in; keep_up = tie.2.keep_up; claims = tie.2.claims },
  );
}

said-caught : (raced racing : Bool) (settings : Settings) (r : Run) (cs : List ControlAt)
    → racing ≡ false → Says raced racing settings r cs → HaveCaughtUp settings r cs
said-caught false racing settings r cs apart says = tells-caught settings r cs says
said-caught true false settings r cs apart says = says
said-caught true true settings r cs apart says = absurd (cc apart)

module _ (w : World) (workers : List Worker) (lines : List Numbered) (now : Stage) (ran : Ran)
    (has : HasRun w workers lines now ran) (later : List Chance) (stopped : Bool) (v : World)
    (at : IsSteered w has.begun has.beside.moved ran.steps.items ran.kept later stopped v)
    (steady : IsSteady (begun_race workers w) v) where
  abbrev pub race : Race
  race = record {
    settings = settings w;
    users = (begun_race workers w).kept.users;
    base = length w.kept.users;
    run = w.run;
    performed = at.recorded.performed;
    steps = ran.steps.items;
    began = has.crew;
    ended = has.beside.ended;
    before = has.first.words;
    shared = has.begun.words;
    moved = at.words;
    looked = has.beside.moved.words;
    after = now.words;
  }

  pub same-settings : settings v ≡ settings w
  same-settings = ap (λ chosen. settings_of chosen) steady.chosen

  pub on-run : v.run ≡ run_after race.performed w.run
  on-run = at.recorded.run

  pub were-beside : WereBeside race
  were-beside = record {
    setting = has.reached.stands.lan.setting;
    within = has.reached.tidy.within;
    legal = has.hired.tidy.sound.legal;
    caught_up = said-caught w.kept.raced (is_racing w.kept.phase) (settings w) w.run has.first.words
        has.apart has.reached.stands.words;
    seated = has.hired.seated;
    senders = has.hired.senders;
    new = has.hired.fresh;
    done = has.beside.done;
    performed = subst (λ (users : List UserFrame).
        ArePerformed (settings w) users w.run race.performed ran.steps.items) steady.users
        (subst (λ (s : Settings). ArePerformed s v.kept.users w.run race.performed ran.steps.items)
        same-settings at.recorded.are);
    gone = subst (λ (s : Settings). HaveGone s w.run race.performed has.begun.words at.words)
        same-settings at.recorded.gone;
    keep_up = subst (λ (r : Run). HaveKeptUp (settings w) r at.words) on-run
        (subst (λ (s : Settings). HaveKeptUp s v.run at.words) same-settings at.kept_up);
    looked = at.looked;
    joined = has.beside.joined (settings w) (run_after race.performed w.run);
    users_few = has.hired.users_few;
    claims_few = has.hired.claims_few;
  }
