-- What the lines of a race ask, how its frames are dealt, and what is left to chance (this profile's
-- own rule).
use Rattle.std.specs.Prelude.{◌≡◌, ℕ, ◌+◌, ◌*◌, ◌/◌, ◌%◌, ◌==◌, nat_lt, if◌then◌else◌, List, []}
use Rattle.std.specs.Prelude.{◌∷◌, map, sum, length}
use Rattle.std.specs.List.{filter, flat_map, range_with_len}
use Rattle.lan_base.specs.declared.frame.UserFrame.{UserFrame}
use Rattle.gcm_frames.specs.Protected.{protection_octets}
use Rattle.lan_core.specs.declared.stop.Which.{Which}
use Rattle.lan_core.specs.declared.stop.Which.TheVariants.{Frames, Octets}
pub use Rattle.trace_acts.specs.Settings.{most_users}
use Rattle.lan_schedule.specs.declared.deed.Deed.{Deed}

-- a burst: a station, how many workers it has there, how many frames they send in all, and of which
-- user data
pub record Burst : Type 0 where
  pub station : ℕ
  pub workers : ℕ
  pub frames : ℕ
  pub user : UserFrame

-- a deed that is kept, with the number of its line
pub record Numbered : Type 0 where
  pub number : ℕ
  pub deed : Deed

-- where the lines stand: in no race; behind `race`, where bursts come; behind `while`, where the
-- lines of control come; or in a race whose lines of control are performed
pub data Phase : Type 0 where
  Apart : Phase
  Bursting : List Burst → Phase
  Controlling : List Burst → List Numbered → Phase
  Racing : Phase

-- ---- what bursts ask

-- how many workers a station has in these bursts
abbrev pub workers_at : ℕ → List Burst → ℕ
workers_at s bursts = sum (map (λ b. b.workers) (filter (λ b. b.station == s) bursts))

-- a frame has as many octets more than its body as protection adds
abbrev pub frame_octets : UserFrame → ℕ
frame_octets user = length user.body + protection_octets

-- the greatest count of claims: a race may lose 16 packet numbers of a key
abbrev pub most_claimed : ℕ
most_claimed = 4294967279

-- of what lines can ask for too much: the limits that frames on the air have
pub data Excess : Type 0 where
  TooManyFrames : Excess
  TooManyOctets : Excess

abbrev pub limit_of : Excess → Which
limit_of TooManyFrames = Frames
limit_of TooManyOctets = Octets

abbrev pub frames_asked : List Burst → ℕ
frames_asked bursts = sum (map (λ b. b.frames) bursts)

abbrev pub octets_asked : List Burst → ℕ
octets_asked bursts = sum (map (λ b. b.frames * frame_octets b.user) bursts)

-- ---- how they are dealt

-- a worker: its station, how many frames it sends, and of which user data
pub record Worker : Type 0 where
  pub station : ℕ
  pub jobs : ℕ
  pub user : UserFrame

-- how many of so many frames the worker at this place sends: the first workers send one more, where
-- the frames can't be dealt evenly
abbrev pub share : ℕ → ℕ → ℕ → ℕ
share frames workers place =
    frames / workers + (if nat_lt place (frames % workers) then 1 else 0)

abbrev pub worker_at : Burst → ℕ → Worker
worker_at b place =
    record { station = b.station; jobs = share b.frames b.workers place; user = b.user }

-- how many frames workers send
abbrev pub jobs_in : List Worker → ℕ
jobs_in workers = sum (map (λ worker. worker.jobs) workers)

-- the workers of bursts, in the order of the bursts
abbrev pub workers_of : List Burst → List Worker
workers_of bursts = flat_map (λ b. map (worker_at b) (range_with_len 0 b.workers)) bursts

-- ---- what is left to chance

-- what a worker claimed: the worker, by its place in the race from 0, and a packet number, 0 where
-- it got none
pub record Claimed : Type 0 where
  pub worker : ℕ
  pub pn : ℕ

-- What the schedule of threads decides: the number that a slot word shows; and for each event of
-- control what was claimed since the one before it, in the last place what was claimed behind the
-- last event.
pub data Chance : Type 0 where
  Shown : ℕ → Chance
  Woven : List (List Claimed) → Chance

-- the number that comes next, 0 where none does
abbrev pub number_in : List Chance → ℕ
number_in (Shown number ∷ later) = number
number_in _ = 0

-- what comes behind the numbers that come next
abbrev pub behind_numbers : List Chance → List Chance
behind_numbers [] = []
behind_numbers (Shown number ∷ later) = behind_numbers later
behind_numbers (Woven claims ∷ later) = Woven claims ∷ later

-- what the workers of a race claim that comes next
abbrev pub woven_in : List Chance → List (List Claimed)
woven_in [] = []
woven_in (Shown number ∷ later) = woven_in later
woven_in (Woven claims ∷ later) = claims

-- what comes behind it
abbrev pub behind_woven : List Chance → List Chance
behind_woven [] = []
behind_woven (Shown number ∷ later) = behind_woven later
behind_woven (Woven claims ∷ later) = later

-- all that the workers of a race claimed
abbrev pub claims_in : List (List Claimed) → List Claimed
claims_in woven = flat_map (λ claims. claims) woven

-- how many claims a worker made
abbrev pub count_of : List Claimed → ℕ → ℕ
count_of claims worker = length (filter (λ c. c.worker == worker) claims)

-- how many claims got a number
abbrev pub count_numbered : List Claimed → ℕ
count_numbered claims = length (filter (λ c. nat_lt 0 c.pn) claims)

-- a race that was run: its workers, and all that they claimed
pub record Raced : Type 0 where
  pub workers : List Worker
  pub claims : List Claimed

-- each worker made as many claims as it was dealt frames, and nobody else made one
pub record IsDealt (race : Raced) : Type 0 where
  pub each : map (count_of race.claims) (range_with_len 0 (length race.workers))
      ≡ map (λ worker. worker.jobs) race.workers
  pub all : length race.claims ≡ sum (map (λ worker. worker.jobs) race.workers)
