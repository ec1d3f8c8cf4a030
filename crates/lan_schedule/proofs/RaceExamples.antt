-- Races at small worlds, worked by hand: how their frames are dealt, and which of their lines are
-- refused or kept.
use Rattle.std.proofs.Common.{◌≡◌, ℕ, true, false, List, [], ◌∷◌, ◌++◌, None, Some, refl}
use Rattle.std.specs.Prelude.{replicate, map, take}
use Rattle.lan_base.specs.declared.address.Mi.{Mi}
use Rattle.lan_base.specs.declared.address.Mac.{Mac}
use Rattle.lan_base.specs.declared.address.Sci.{Sci}
use Rattle.lan_base.specs.declared.frame.UserFrame.{UserFrame}
use Rattle.aes_block.specs.declared.secret.Secret.TheVariants.{S128}
use Rattle.lan_core.specs.declared.event.Event.TheVariants as events
use Rattle.lan_core.specs.declared.fact.Fact.TheVariants as facts
use Rattle.lan_core.specs.Run.{Run, happened, stations, facts_of}
use Rattle.lan_core.specs.Ledgers.{air, births, installs, claims}
use Rattle.lan_core.specs.Lives.{life, receiving}
use Rattle.lan_core.specs.Claims.{next, claimed}
use Rattle.lan_core.specs.Expected.{expected}
use Rattle.lan_core.specs.Stops.{first_stop, mi_number, sak_number, draws_in}
use Rattle.lan_core.specs.Fresh.{drawn_saks}
use Rattle.peer_lists.specs.Acceptance.{refusal as refused, accepted, outcome}
use Rattle.peer_lists.specs.Peers.{says, hopes, known}
use Rattle.sak_exchange.specs.Held.{received, latest, old, transmitting}
use Rattle.mka_station.specs.Lives.{peers_of, keys_of, elected}
use Rattle.mka_station.specs.Views.{view}
use Rattle.mka_station.specs.Restart.{ending}
use Rattle.trace_text.specs.declared.line.Line.{Line}
use Rattle.trace_text.specs.declared.line.Line.TheVariants as lines
use Rattle.lan_schedule.specs.declared.deed.Deed.TheVariants as deeds
use Rattle.trace_acts.specs.declared.halt.Halt.{Halt}
use Rattle.trace_acts.specs.declared.halt.Halt.TheVariants as halts
use Rattle.trace_acts.specs.declared.halt.Kind.TheVariants as kinds
use Rattle.trace_acts.specs.declared.choices.Rule.TheVariants.{Listed}
use Rattle.trace_acts.specs.Settings.{no_choice}
use Rattle.lan_core.specs.declared.fact.Lack.TheVariants.{NoKey}
use Rattle.lan_core.specs.declared.stop.Which.TheVariants as which
use Rattle.lan_schedule.specs.Races.{Phase, Apart, Bursting, Controlling, Chance, Shown, Woven}
use Rattle.lan_schedule.specs.Races.{Burst, Numbered, Claimed, count_of, workers_of, share}
use Rattle.lan_schedule.specs.World.{World, nothing_kept}
use Rattle.lan_schedule.specs.Numbers.{decided, stands}
use Rattle.lan_schedule.specs.Acts.{Course, Goes, Stops, perform, and_then, world_of, each}
use Rattle.lan_schedule.specs.Deeds.{deed_in}
use Rattle.lan_schedule.specs.Kinds.{refusal, wrong_word}
use Rattle.lan_schedule.specs.Lines.{numbered, close, line_after, round_after, run_race}

opens : ℕ
unfolding refused accepted outcome says hopes known received latest old transmitting peers_of keys_of elected view ending stations air births installs claims life receiving next claimed expected drawn_saks first_stop mi_number sak_number draws_in
opens = 0

abbrev mi : ℕ → Mi
mi n = record { 0 = replicate 11 0 ++ n ∷ [] }

abbrev draw : ℕ → List ℕ
draw n = replicate 15 0 ++ n ∷ []

abbrev sci : ℕ → Sci
sci n = record { 0 = 2 ∷ 0 ∷ 0 ∷ 0 ∷ 0 ∷ n ∷ 0 ∷ 1 ∷ [] }

abbrev all : Mac
all = record { 0 = replicate 6 255 }

abbrev user : ℕ → UserFrame
user n = record { destination = all; body = replicate n 0 }

-- two stations, A and B
abbrev two : Run
two =
    happened (events.Start (66 ∷ []) (sci 11) 32) (facts.Life 1 (mi 2) ∷ [])
    ∷ happened (events.Start (65 ∷ []) (sci 10) 16) (facts.Life 0 (mi 1) ∷ []) ∷ []

-- behind line 9
abbrev started : List Chance → World
started chances = record {
  run = two;
  kept = record (nothing_kept chances) {
    line = 9;
    begun = true;
    taken = 2;
    chosen = record no_choice {
      draws = Some (Listed (draw 1 ∷ draw 2 ∷ draw 3 ∷ []));
      group = Some (record { cak = S128 (replicate 16 0); ckn = 1 ∷ 2 ∷ [] });
    };
  };
}

-- where nothing is left to chance
abbrev start : World
start = started []

-- ---- shares

four_shares : map (share 10 4) (0 ∷ 1 ∷ 2 ∷ 3 ∷ []) ≡ 3 ∷ 3 ∷ 2 ∷ 2 ∷ []
four_shares = refl

more_workers : map (share 2 4) (0 ∷ 1 ∷ 2 ∷ 3 ∷ []) ≡ 1 ∷ 1 ∷ 0 ∷ 0 ∷ []
more_workers = refl

abbrev burst : ℕ → ℕ → ℕ → ℕ → Burst
burst s workers frames octets = record {
  station = s;
  workers = workers;
  frames = frames;
  user = user octets;
}

three_workers : workers_of (burst 0 2 3 2 ∷ burst 1 1 5 4 ∷ []) ≡
    record { station = 0; jobs = 2; user = user 2 } ∷ record { station = 0; jobs = 1; user = user 2 }
    ∷ record { station = 1; jobs = 5; user = user 4 } ∷ []
three_workers = refl

abbrev why : Course → List Halt
why (Goes w) = []
why (Stops w halt) = halt ∷ []

-- ---- two workers, and one line of control

abbrev claimed_by : ℕ → Claimed
claimed_by worker = record { worker = worker; pn = 0 }

abbrev by_chance : List Chance
by_chance = Woven ((claimed_by 1 ∷ []) ∷ (claimed_by 0 ∷ []) ∷ (claimed_by 0 ∷ []) ∷ []) ∷ []

abbrev restart_b : Numbered
restart_b = record { number = 8; deed = deeds.Restart 1 }

abbrev raced : Numbered → Course
raced line = perform (run_race (burst 0 2 3 2 ∷ []) (line ∷ []) (started by_chance)) (started by_chance)

-- The second worker's claim stands before the restart, the first one's two behind it: one for the
-- place behind the only event, one that is left.
woven_run : facts_of (world_of (raced restart_b)).run ≡
    facts.Life 0 (mi 1) ∷ facts.Life 1 (mi 2) ∷ facts.Unclaimed 0 NoKey ∷ facts.Life 1 (mi 3)
    ∷ facts.Unclaimed 0 NoKey ∷ facts.Unclaimed 0 NoKey ∷ []
unfolding opens
woven_run = refl

-- each claim names its worker's user frame
woven_events : map (λ x. x.event) (world_of (raced restart_b)).run ≡
    events.Claim 0 1 0 ∷ events.Claim 0 1 0 ∷ events.Restart 1 ∷ events.Claim 0 2 0
    ∷ map (λ x. x.event) two
unfolding opens
woven_events = refl

-- behind it the lines stand in no race, and the last line is its end
abbrev where_after : Course → List ℕ
where_after (Goes w) = w.kept.line ∷ []
where_after (Stops w halt) = []

goes_on : where_after (raced restart_b) ≡ 9 ∷ []
unfolding opens
goes_on = refl

apart_again : (world_of (raced restart_b)).kept.phase ≡ Apart
unfolding opens
apart_again = refl

-- ---- control that ends early

abbrev deliver_nine : Numbered
deliver_nine = record { number = 8; deed = deeds.Deliver 9 0 }

-- the workers do all their jobs, and the line of control is named
refused_late : why (raced deliver_nine) ≡ halts.Trace 8 kinds.FrameUnknown ∷ []
unfolding opens
refused_late = refl

claimed_all : facts_of (world_of (raced deliver_nine)).run ≡
    facts.Life 0 (mi 1) ∷ facts.Life 1 (mi 2)
    ∷ facts.Unclaimed 0 NoKey ∷ facts.Unclaimed 0 NoKey ∷ facts.Unclaimed 0 NoKey ∷ []
unfolding opens
claimed_all = refl

-- each worker claimed what it was dealt
are_dealt : map (count_of (claimed_by 1 ∷ claimed_by 0 ∷ claimed_by 0 ∷ [])) (0 ∷ 1 ∷ [])
    ≡ map (λ w. w.jobs) (workers_of (burst 0 2 3 2 ∷ []))
are_dealt = refl

-- ---- limits at the end

abbrev limited : List Burst → List Halt
limited bursts = why (perform (run_race bursts [] start) start)

too_many_frames : limited (burst 0 8 100000 2 ∷ burst 1 8 100000 2 ∷ burst 1 1 1 2 ∷ []) ≡
    halts.Limit which.Frames ∷ []
unfolding opens
too_many_frames = refl

too_many_octets : limited (burst 0 8 50000 1500 ∷ []) ≡ halts.Limit which.Octets ∷ []
unfolding opens
too_many_octets = refl

-- both: the limit that stands first
frames_first : limited (burst 0 8 100000 1500 ∷ burst 1 8 100000 1500 ∷ burst 1 1 1 2 ∷ []) ≡
    halts.Limit which.Frames ∷ []
unfolding opens
frames_first = refl

-- ---- lines that are kept

abbrev a_burst : ℕ → List ℕ → Line
a_burst workers name = lines.Burst name workers 3 all (0 ∷ 0 ∷ [])

-- the lines of a race, behind line 9
abbrev race_lines : List (ℕ × Line)
race_lines =
    (10, lines.Race) ∷ (11, a_burst 2 (66 ∷ [])) ∷ (12, lines.While)
    ∷ (13, lines.Deliver 9 (65 ∷ [])) ∷ (14, lines.End) ∷ []

-- so many of them, one after the other
abbrev after_lines : ℕ → Course
after_lines count =
    perform (each (λ line. numbered line.0 line.1) (take count race_lines)) start

begins_a_race : (world_of (after_lines 1)).kept.phase ≡ Bursting []
unfolding opens
begins_a_race = refl

-- the burst of the second station
keeps_a_burst : (world_of (after_lines 2)).kept.phase ≡ Bursting (burst 1 2 3 2 ∷ [])
unfolding opens
keeps_a_burst = refl

-- a line of control has its number, and the place of its station
keeps_a_line : (world_of (after_lines 4)).kept.phase ≡
    Controlling (burst 1 2 3 2 ∷ [])
    (record { number = 13; deed = deeds.Deliver 9 0 } ∷ [])
unfolding opens
keeps_a_line = refl

-- nothing of it is performed
kept_alone : facts_of (world_of (after_lines 4)).run ≡
    facts.Life 0 (mi 1) ∷ facts.Life 1 (mi 2) ∷ []
unfolding opens
kept_alone = refl

-- until the race ends: it is run, and its line of control is refused
end_runs_it : why (after_lines 5) ≡ halts.Trace 13 kinds.FrameUnknown ∷ []
unfolding opens
end_runs_it = refl

-- the line that was read last is its end
end_is_last : (world_of (after_lines 5)).kept.line ≡ 14
unfolding opens
end_is_last = refl

races_kept : map (λ r. map (λ w. w.jobs) r.workers) (world_of (after_lines 5)).kept.races ≡
    (2 ∷ 1 ∷ []) ∷ []
unfolding opens
races_kept = refl

-- the trace ends inside a race
no_end : why (and_then (after_lines 3) (λ w. perform close w)) ≡ halts.Trace 13 kinds.NoEnd ∷ []
unfolding opens
no_end = refl

-- and outside one
ends : why (perform close start) ≡ []
ends = refl

-- ---- deeds

-- the names of two stations
abbrev names : List (List ℕ)
names = (65 ∷ []) ∷ (66 ∷ []) ∷ []

-- a name is a place from 0; one that no station has is a place behind them all
second_is_named : deed_in (lines.Restart (66 ∷ [])) names ≡ Some (deeds.Restart 1)
second_is_named = refl

nobody_is_named : deed_in (lines.Restart (90 ∷ [])) names ≡ Some (deeds.Restart 2)
nobody_is_named = refl

nobody_is_there : wrong_word (Some (deeds.Restart 2)) names [] 0 ≡ Some kinds.NameUnknown
nobody_is_there = refl

-- of two faults that of the word further left is told
frame_before_name : wrong_word (Some (deeds.Deliver 9 2)) names [] 0 ≡ Some kinds.FrameUnknown
frame_before_name = refl

race_is_no_deed : deed_in lines.Race names ≡ None
race_is_no_deed = refl

-- ---- lines that are refused

abbrev inside : Phase → World
inside phase = record start { kept = record start.kept { phase = phase } }

abbrev bursts : ℕ → List Burst
bursts n = replicate n (burst 0 1 1 2)

send_inside : refusal (lines.Send (65 ∷ []) all (0 ∷ 0 ∷ [])) (inside (Bursting []))
    ≡ Some kinds.Order
send_inside = refl

while_first : refusal lines.While (inside (Bursting [])) ≡ Some kinds.Order
while_first = refl

while_behind : refusal lines.While (inside (Bursting (bursts 1))) ≡ None
while_behind = refl

tick_behind_race : refusal (lines.Tick 1) (inside (Bursting (bursts 1))) ≡ Some kinds.Order
tick_behind_race = refl

nine_workers : refusal (a_burst 8 (65 ∷ [])) (inside (Bursting (bursts 1))) ≡ Some kinds.Range
unfolding opens
nine_workers = refl

-- of another station
eight_workers : refusal (a_burst 8 (66 ∷ [])) (inside (Bursting (bursts 1))) ≡ None
unfolding opens
eight_workers = refl

ninth_burst : refusal (a_burst 1 (66 ∷ [])) (inside (Bursting (bursts 8))) ≡ Some kinds.Order
ninth_burst = refl

burst_behind_while : refusal (a_burst 1 (66 ∷ [])) (inside (Controlling (bursts 1) []))
    ≡ Some kinds.Order
burst_behind_while = refl

unknown_inside : refusal (lines.Deliver 9 (90 ∷ [])) (inside (Controlling (bursts 1) [])) ≡
    Some kinds.NameUnknown
unfolding opens
unknown_inside = refl

-- a frame isn't looked for
frame_inside : refusal (lines.Deliver 9 (65 ∷ [])) (inside (Controlling (bursts 1) [])) ≡ None
unfolding opens
frame_inside = refl

race_in_race : refusal lines.Race (inside (Controlling (bursts 1) [])) ≡ Some kinds.Order
race_in_race = refl

burst_outside : refusal (a_burst 1 (65 ∷ [])) start ≡ Some kinds.Order
burst_outside = refl

while_outside : refusal lines.While start ≡ Some kinds.Order
while_outside = refl

end_outside : refusal lines.End start ≡ Some kinds.Order
end_outside = refl

end_before_while : refusal lines.End (inside (Bursting (bursts 1))) ≡ Some kinds.Order
end_before_while = refl

end_behind_while : refusal lines.End (inside (Controlling (bursts 1) [])) ≡ None
end_behind_while = refl

-- ---- what chance decides

-- before the first race nothing; from then on the number of a tick and of a claim, where there is one
before_a_race : decided false (events.Tick 0 7) ≡ []
before_a_race = refl

shown_after_a_race : decided true (events.Tick 0 7) ≡ Shown 7 ∷ []
shown_after_a_race = refl

claimed_after_a_race : decided true (events.Claim 1 3 8) ≡ Shown 8 ∷ []
claimed_after_a_race = refl

none_without_a_key : decided true (events.Tick 0 0) ≡ []
none_without_a_key = refl

none_of_others : decided true (events.Deliver 4 1) ≡ []
none_of_others = refl

-- a number stands that isn't below the next one
not_below : stands true 7 9 ≡ true
not_below = refl

below : stands true 7 6 ≡ false
below = refl

-- ---- counts that stand still

first_line : line_after 0 ≡ 1
first_line = refl

no_line_behind : line_after 4294967295 ≡ 4294967295
no_line_behind = refl

no_round_behind : round_after 18446744073709551615 ≡ 18446744073709551615
no_round_behind = refl
