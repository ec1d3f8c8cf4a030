-- A world whose race is the one that `worker_races` works by hand: two stations, a worker of each, and a
-- line that delivers a frame to the second one while they claim.
use Rattle.std.proofs.Common.{◌≡◌, ℕ, true, false, List, [], ◌∷◌, length}
use Rattle.std.proofs.Common.{Option, Some, None, refl, sym, ap, ◌∙◌}
use Rattle.std.specs.Prelude.{Ok, option_and_then, option_map, replicate, unwrap_or}
use Rattle.std.specs.Option.{option_or}
use Rattle.std.proofs.lemmas.Bool.{le-ltb}
use Rattle.atomic_table.specs.Seated.{TableId}
use Rattle.lan_base.specs.declared.frame.UserFrame.{UserFrame}
use Rattle.aes_block.specs.declared.secret.Secret.TheVariants.{S128}
use Rattle.lan_core.specs.declared.event.Event.{Event}
use Rattle.lan_core.specs.declared.event.Event.TheVariants as events
use Rattle.lan_core.specs.declared.fact.Fact.{Fact}
use Rattle.lan_core.specs.declared.stop.Stop.{Stop}
use Rattle.lan_core.specs.declared.stop.Stop.TheVariants.{Limit}
use Rattle.lan_core.specs.declared.stop.Which.{Which}
use Rattle.lan_core.specs.Expected.{drawn_from, expected}
use Rattle.lan_core.specs.Ledgers.{air, installs}
use Rattle.lan_base.specs.Ranges.{most_frames, most_ticks}
use Rattle.lan_core.specs.Order.{IsWithin, most_octets, most_stations, ticks}
use Rattle.lan_core.specs.Run.{Run, stations}
use Rattle.lan_core.specs.Stops.{first_stop, is_over_installs, passed, stop_at}
use Rattle.group_safety.proofs.Public.{r11, r12, v12}
use Rattle.worker_races.proofs.Public.{legal-after, newest}
use Rattle.worker_races.proofs.Public.{race}
use Rattle.lan_schedule.specs.declared.deed.Deed.TheVariants as deeds
use Rattle.trace_acts.specs.Settings.{no_choice}
use Rattle.lan_schedule.specs.Acts.{Course, Goes, and_then, begun_race, happen, perform, shown, world_of}
use Rattle.lan_schedule.specs.Answers.{answered, supply}
use Rattle.lan_schedule.specs.Lines.{at_line}
use Rattle.lan_schedule.specs.Races.{Chance, Numbered, Worker}
use Rattle.lan_schedule.specs.Woven.{IsRaceOf, controlled_in}
use Rattle.lan_schedule.specs.World.{World, nothing_kept, settings}
use Rattle.lan_schedule.specs.declared.frames.Put.{Put}

-- ---- the world

abbrev put : ℕ → ℕ → Put
put number sender = record { number = number; sender = sender; at = 0; marked = true }

-- behind line 9, with the frames of the air
abbrev w : List Chance → World
w chances = record {
  run = r11;
  kept = record (nothing_kept chances) {
    line = 9;
    begun = true;
    chosen = record no_choice {
      group = Some (record { cak = S128 (replicate 16 0); ckn = 1 ∷ 2 ∷ 3 ∷ 4 ∷ [] });
    };
    frames = put 1 0 ∷ put 2 1 ∷ put 3 0 ∷ put 4 1 ∷ put 5 0 ∷ [];
  };
}

abbrev user : UserFrame
user = record { destination = record { 0 = replicate 6 1 }; body = 8 ∷ 0 ∷ 1 ∷ [] }

-- a worker of each station, with two jobs
abbrev crew : List Worker
crew = record { station = 0; jobs = 2; user = user } ∷ record { station = 1; jobs = 2; user = user } ∷ []

-- the frame in which the first station says that it begins the key reaches the second
abbrev deliver : List Numbered
deliver = record { number = 12; deed = deeds.Deliver 5 1 } ∷ []

module _ (chances : List Chance) where
  abbrev begun : World
  begun = at_line 12 (begun_race crew (w chances))

  -- ---- what its line performs

  abbrev event : Event
  event = events.Deliver 5 1

  passes : (r : Run) → IsWithin r → is_over_installs r ≡ false → passed r ≡ None
  passes r within few =
      let frames = le-ltb most_frames (length (air r)) within.frames in
      let octets = le-ltb most_octets _ within.octets in
      let ticked = le-ltb most_ticks (ticks r) within.ticks in
      let there = le-ltb most_stations (length (stations r)) within.stations in
      rw (frames, octets, ticked, few, there) refl

  none-over : is_over_installs r12 ≡ false
  unfolding installs
  none-over = refl

  shows : expected (settings begun) begun.kept.users begun.run event
      (drawn_from (settings begun).suite (supply begun)) ≡ Some (newest r12).facts
  unfolding expected
  shows = legal-after.stepped.0.shows

  goes : first_stop (settings begun) begun.kept.users begun.run event (supply begun) ≡ None
  unfolding first_stop
  goes = ap (λ o. option_and_then (stop_at (settings begun) begun.run event) o) shows
      ∙ ap (λ (o : Option Which). option_or (option_map Limit o) None)
      (passes r12 v12.stepped.0.within none-over)

  comes : (perform (happen event) begun) ≡ shown begun event (Ok (newest r12).facts)
  comes = ap (λ (o : Option Stop). shown begun event (answered begun event o)) goes
      ∙ ap (λ (o : Option (List Fact)). shown begun event (Ok (unwrap_or o []))) shows

  controls : (controlled_in (w chances) crew deliver).run ≡ r12
  controls =
      ap (λ (out : Course). (world_of (and_then out (λ v. Goes v))).run) comes

  -- ---- the race is that of the world

  is-race_of : (a_table b_table : TableId) → let r = race a_table b_table in
      IsRaceOf (w chances) crew deliver r.before r.after r
  is-race_of a_table b_table = record {
    settings = refl;
    run = refl;
    users = refl;
    base = refl;
    workers = refl;
    control = sym controls;
    before = refl;
    after = refl;
  }
