-- What can be performed, and what performing it leaves (this profile's own rule).
use Rattle.std.specs.Prelude.{ℕ, ◌+◌, Bool, if◌then◌else◌, zero, suc, List, [], ◌∷◌, ◌++◌, Result}
use Rattle.std.specs.Prelude.{Ok, Err, ◌-◌, true, false, map, length, take, reverse}
use Rattle.std.specs.Prelude.{slice_get, option_map, unwrap_or}
use Rattle.lan_core.specs.declared.event.Event.{Event}
use Rattle.lan_core.specs.declared.fact.Fact.{Fact}
use Rattle.lan_core.specs.declared.event.Event.TheVariants.{Claim, Emit}
use Rattle.lan_core.specs.declared.settings.Settings.{Settings}
use Rattle.lan_core.specs.Run.{Run, Happening, happened}
use Rattle.lan_core.specs.Lives.{transmitting_at}
use Rattle.lan_core.specs.Expected.{claim_fact}
use Rattle.trace_acts.specs.declared.halt.Halt.{Halt}
use Rattle.trace_acts.specs.declared.halt.Halt.TheVariants as halts
use Rattle.trace_acts.specs.declared.halt.Kind.TheVariants.{DrawsSpent}
use Rattle.trace_acts.specs.Acts as acts
use Rattle.trace_acts.specs.Ways as ways
pub use Rattle.trace_acts.specs.Acts.{nothing, refuse, exceed, happen, change, seq, look, race}
pub use Rattle.trace_acts.specs.Acts.{Goes, Stops, and_then, each, span, times, unless, world_of}
use Rattle.lan_schedule.specs.Races.{Apart, Racing, Chance, Worker, Claimed, Excess, limit_of, claims_in}
use Rattle.lan_schedule.specs.Races.{count_numbered}
use Rattle.lan_schedule.specs.Races.{woven_in, behind_woven}
use Rattle.lan_schedule.specs.World.{World, Kept, beginning, settings, puts}
use Rattle.lan_schedule.specs.Numbers.{chances_after}
use Rattle.lan_schedule.specs.Answers.{answer, taken_by}

-- what an act leaves
abbrev pub Course : Type 0
Course = acts.Course World

-- what is kept after an event that showed these facts
abbrev pub kept_after : World → Event → List Fact → Kept
kept_after w event facts = record w.kept {
  frames = w.kept.frames ++ puts w.kept.rounds facts;
  taken = w.kept.taken + taken_by w event;
  chances = chances_after w event;
}

-- the world after an event that showed these facts
abbrev pub world_after : World → Event → List Fact → World
world_after w event facts =
    record { run = happened event facts ∷ w.run; kept = kept_after w event facts }

abbrev pub shown : World → Event → Result (List Fact) Halt → Course
shown w event (Ok facts) = Goes (world_after w event facts)
shown w event (Err halt) = Stops w halt

-- ---- races

-- the world in which the lines of control are performed: each worker's user frame has come
abbrev pub begun_race : List Worker → World → World
begun_race workers w = record w {
  kept = record w.kept {
    users = w.kept.users ++ map (λ worker. worker.user) workers;
    phase = Racing;
    raced = true;
  };
}

-- the events since a world, oldest first
abbrev pub since : World → World → List Happening
since w v = reverse (take (length v.run - length w.run) v.run)

abbrev pub station_of : List Worker → ℕ → ℕ
station_of workers place =
    unwrap_or (option_map (λ worker. worker.station) (slice_get workers place)) 0

-- a claim of a worker, before whose race so many user frames came
abbrev pub claim_of : Settings → List Worker → ℕ → Claimed → Run → Happening
claim_of settings workers users c r =
    let s = station_of workers c.worker in
    happened (Claim s (users + c.worker + 1) c.pn)
    (claim_fact settings s r c.pn (transmitting_at settings s r) ∷ [])

abbrev pub with_claims : Settings → List Worker → ℕ → List Claimed → Run → Run
with_claims settings workers users [] r = r
with_claims settings workers users (c ∷ later) r =
    with_claims settings workers users later (claim_of settings workers users c r ∷ r)

-- the events of control after a run, each behind the claims that came before it
abbrev pub woven : Settings → List Worker → ℕ → List (List Claimed) → List Happening → Run → Run
woven settings workers users claims [] r =
    with_claims settings workers users (claims_in claims) r
woven settings workers users [] (x ∷ later) r = woven settings workers users [] later (x ∷ r)
woven settings workers users (now ∷ claims) (x ∷ later) r =
    woven settings workers users claims later (x ∷ with_claims settings workers users now r)

-- the world after a race, of whose lines of control this is the world
abbrev pub after_race : List Worker → World → World → World
after_race workers w v =
    let claims = woven_in v.kept.chances in
    record {
      run = woven (settings w) workers (length w.kept.users) claims (since w v) w.run;
      kept = record v.kept {
        line = w.kept.line;
        phase = Apart;
        races = v.kept.races ++ record { workers = workers; claims = claims_in claims } ∷ [];
        chances = behind_woven v.kept.chances;
      };
    }

-- so many frames are emitted
abbrev pub emitting : ℕ → World → Course
emitting zero w = Goes w
emitting (suc count) w = and_then (shown w Emit (answer w Emit)) (λ v. emitting count v)

-- one for each claim that got a number
abbrev pub emitting_all : World → World → Course
emitting_all v w = emitting (count_numbered (claims_in (woven_in v.kept.chances))) w

-- whether a group stopped: a line that was refused is no stop of the group, but where draws were spent
abbrev pub is_stop : Halt → Bool
is_stop (halts.Trace line DrawsSpent) = true
is_stop (halts.Trace line _) = false
is_stop _ = true

abbrev pub ends_with : Halt → Course → Course
ends_with halt out = Stops (world_of out) halt

-- What a race leaves, by what control left. The workers claim whatever control does, and each claim
-- that got a number is emitted, unless the group stopped.
abbrev pub beside : List Worker → World → Course → Course
beside workers w (Goes v) = emitting_all v (after_race workers w v)
beside workers w (Stops v halt) =
    let u = after_race workers w v in
    ends_with halt (if is_stop halt then Goes u else emitting_all v u)

-- ---- acts

-- what can be performed: a race is an act beside which workers claim packet numbers
abbrev pub Act : Type 0
Act = acts.Act Run Kept Event Excess (List Worker)

-- how acts are performed
abbrev pub rules : acts.Rules Run Kept Event Excess (List Worker)
rules = record {
  line = λ kept. kept.line;
  limit = limit_of;
  happens = λ w event. shown w event (answer w event);
  begins = begun_race;
  beside = beside;
}

abbrev pub perform : Act → World → Course
perform act w = acts.perform rules act w

-- a race has nothing between where it begins and where it comes to
abbrev pub IsOnWay : Act → World → World → Type 0
IsOnWay act w = ways.IsOnWay rules act w

-- nor has it parts
abbrev pub BeginsAt : Act → World → World → Type 0
BeginsAt act w = ways.BeginsAt rules act w

-- ---- from the beginning on

-- What an act leaves where no line was performed before, and chance decides so. Without a race
-- nothing is left to chance, and this is one course.
abbrev pub course : Act → List Chance → Course
course act chances = perform act (beginning chances)
