-- A race: control performed events while workers claimed packet numbers beside it. What whoever ran
-- it knows afterwards.
use Rattle.std.specs.Prelude.{◌<◌, ℕ, ◌+◌, ◌^◌, List, map, All, length}
use Rattle.lan_base.specs.declared.association_number.AssociationNumber.{AssociationNumber}
use Rattle.lan_base.specs.declared.frame.UserFrame.{UserFrame}
use Rattle.association_slots.specs.Views.{ControlAt}
use Rattle.association_slots.specs.declared.card.Card.{Card}
use Rattle.data_workers.specs.declared.entry.Entry.{Entry}
use Rattle.data_workers.specs.Workers.{AreDone, WorkerAt}
use Rattle.lan_core.specs.declared.settings.Settings.{Settings}
use Rattle.lan_core.specs.Ledgers.{claims}
use Rattle.lan_core.specs.Legal.{IsLegal}
use Rattle.lan_core.specs.Order.{IsWithin}
use Rattle.lan_core.specs.Run.{Happening, Run}
use Rattle.lan_core.specs.Types.{IsSetting}
use Rattle.worker_races.specs.declared.merge.step.Step.{Step}
use Rattle.worker_races.specs.merge.Merged.{entries_of, merged}
use Rattle.worker_races.specs.merge.Places.{Attempt, Move}
use Rattle.worker_races.specs.merge.Steps.{logs_of}
use Rattle.worker_races.specs.merge.Table.{Controls, moves_at}
use Rattle.worker_races.specs.merge.Weaving.{part_of}
use Rattle.station_words.specs.Ties.{HaveCaughtUp, HaveKeptUp, HaveLooked}
use Rattle.worker_races.specs.Going.{HaveGone, HaveJoined, WereSeated}
use Rattle.worker_races.specs.Performed.{ArePerformed, run_after}
use Rattle.worker_races.specs.Reading.{an_pointed, card_given, last_pointed}
use Rattle.worker_races.specs.Senders.{AreSenders, IsNew, jobs_of}

pub record Race : Type 0 where
  pub settings : Settings
  -- the user frames, of which so many came before those of the workers
  pub users : List UserFrame
  pub base : ℕ
  -- the run before
  pub run : Run
  -- what control performed, and how it was kept
  pub performed : Controls
  pub steps : List Step
  -- the workers as they began, and when they were done
  pub began : List WorkerAt
  pub ended : List WorkerAt
  -- the words of the stations: before, with all seats out, after what control performed, after the
  -- last look at them, and with all seats back
  pub before : List ControlAt
  pub shared : List ControlAt
  pub moved : List ControlAt
  pub looked : List ControlAt
  pub after : List ControlAt

-- ---- what the merged list is made of

-- the logs, in the order of the workers
abbrev pub logs_in : Race → List (List Entry)
logs_in race = map (λ w. w.log) race.ended

abbrev pub attempts_in : Race → List (List Attempt)
attempts_in race = logs_of 0 (logs_in race)

-- the last epoch pointed at before, of each station
abbrev pub pointed_in : Race → ℕ → ℕ
pointed_in race s = last_pointed race.before s

-- the events of control as the places see them
abbrev pub moves_in : Race → List Move
moves_in race = moves_at race.settings (pointed_in race) race.run race.performed

-- what the race adds to the run: the events of control and a claim for each entry of the logs, in the
-- order of the merged list
abbrev pub part_in : Race → List Happening
part_in race = part_of race.settings race.base
    (merged (moves_in race) (entries_of (attempts_in race))) race.run

-- the association number under which each epoch of a station was pointed at, in the end
abbrev pub ans_in : Race → ℕ → ℕ → AssociationNumber
ans_in race s epoch = an_pointed race.after s epoch

-- and the card of each
abbrev pub cards_in : Race → ℕ → ℕ → Card
cards_in race s epoch = card_given race.after s epoch

-- ---- what is known

-- The run before is legal, and the words had caught up with it. Each worker took a seat, sends the
-- next user frame, and is done. Control performed its events; the words were told what these say,
-- and kept up with them; then they were looked at once more at most, by an event that was not performed.
-- The seats came back. No epoch can have come near its last packet number.
pub record WereBeside (race : Race) : Type 0 where
  -- before
  pub setting : IsSetting race.settings
  pub within : IsWithin race.run
  pub legal : IsLegal race.settings race.users race.run
  pub caught_up : HaveCaughtUp race.settings race.run race.before
  -- the workers
  pub seated : WereSeated race.began race.before race.shared
  pub senders : AreSenders race.users race.run (race.base + 1) race.began
  pub new : All IsNew race.began
  pub done : AreDone race.began race.ended
  -- control
  pub performed : ArePerformed race.settings race.users race.run race.performed race.steps
  pub gone : HaveGone race.settings race.run race.performed race.shared race.moved
  pub keep_up : HaveKeptUp race.settings (run_after race.performed race.run) race.moved
  pub looked : HaveLooked race.moved race.looked
  -- after
  pub joined : HaveJoined race.settings (run_after race.performed race.run) race.ended race.looked
      race.after
  -- users and claims are few
  pub users_few : length race.users + 1 < 2 ^ 32
  pub claims_few : length (claims race.run) + jobs_of race.began + 16 < 2 ^ 32
