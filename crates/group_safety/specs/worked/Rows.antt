-- Two rollovers of three stations, each told by a few lines.
use Rattle.std.specs.Prelude.{ℕ, ◌==◌, ◌&&◌, not, Bool, List, [], ◌∷◌}
use Rattle.lan_core.specs.Run.{Run}
use Rattle.group_safety.specs.Rounds.{Since}
use Rattle.group_safety.specs.Steady.{Rollover}
use Rattle.group_safety.specs.Time.{Flight}
use Rattle.group_safety.specs.worked.Group.{id, first_key}
use Rattle.group_safety.specs.worked.Deeds.{Deed, run_of}
use Rattle.group_safety.specs.worked.Script.{Story, begin, send, deliver, flow, always}

abbrev pub all : List ℕ
all = 0 ∷ 1 ∷ 2 ∷ []

-- Two stations agree, and a third one comes. After five rounds alice has made her second key, and
-- bob and carol have said that they receive it.
abbrev pub before : Story
before =
    flow always all 5 (begin 2 4
    (flow always (0 ∷ 1 ∷ []) 6 (begin 1 2 (begin 0 1 (record { deeds = []; frame = 1 })))))

-- rounds count from event 41 on, and all take part
abbrev pub since : Since
since = record { moment = 41; out = [] }

-- ---- in time and too late

-- Bob sends a frame. A round comes, and the frame, which is number 18, reaches alice and carol.
-- After 29 more rounds it reaches alice again.
unfoldable pub late_story : Story
late_story =
    deliver 18 (flow always all 29
    (deliver 18 (deliver 18 (flow always all 1 (send before)) 0) 2)) 0

unfoldable pub late_deeds : List Deed
late_deeds = late_story.deeds

abbrev pub late : Run
late = run_of late_deeds

-- alice makes the second key in event 41 and begins it in event 57; nobody lags
abbrev pub late_rollover : Rollover
late_rollover = record {
  server = 0;
  made = 41;
  start = 57;
  old_id = id 1;
  new_id = id 2;
  lag = 0;
  from = since;
}

-- bob claimed the frame in event 55, and it reaches a station in another
abbrev pub late_flight : ℕ → ℕ → Flight
late_flight receiver delivery = record {
  frame = 18;
  key = first_key;
  sender = 1;
  claim = 55;
  receiver = receiver;
  delivery = delivery;
}

-- ---- a missed flag

-- the way from alice to bob is cut
abbrev pub cut : ℕ → ℕ → Bool
cut s t = not ((s == 0) && (t == 1))

-- After the cut come 31 rounds: bob doesn't hear that alice has begun the second key.
unfoldable pub missed_story : Story
missed_story = flow cut all 31 before

unfoldable pub missed_deeds : List Deed
missed_deeds = missed_story.deeds

abbrev pub missed : Run
missed = run_of missed_deeds

-- alice makes the second key in event 41 and begins it in event 55; the members may lag so many
-- rounds
abbrev pub missed_rollover : ℕ → Rollover
missed_rollover lag = record {
  server = 0;
  made = 41;
  start = 55;
  old_id = id 1;
  new_id = id 2;
  lag = lag;
  from = since;
}
