-- A rollover by numbers: what stations hold at each moment of a run, and what the proof asks of it.
use Rattle.std.specs.Prelude.{◌≡◌, ◌<◌, ◌≤◌, ◌⊎◌, ℕ, ◌+◌, suc, Bool, true, false}
use Rattle.std.specs.Prelude.{List, ◌∷◌, ◌++◌, Some}
use Rattle.lan_base.specs.declared.key_id.KeyId.{KeyId}
use Rattle.lan_base.specs.Timers.{retire_time}
use Rattle.sak_exchange.specs.declared.held_key.Key.{Key}
use Rattle.sak_exchange.specs.Histories.{Keying, ticked, clock, installs, begun_at, has_begun}
use Rattle.sak_exchange.specs.Held.{KeepsRules, received, latest, old, transmitting, allows}
use Rattle.sak_exchange.specs.Lives.{Has, IsQuiet}
use Rattle.group_safety.specs.Steady.{Rollover}

-- How many events there are; a station's keys at a moment; whether an event is a tick of a station,
-- 1 or 0; how many rounds have begun at a moment; whether a station still has to tick in the round
-- that stands open, 1 or 0; and whether rounds count it. Rounds count from a moment on.
pub record Course : Type 0 where
  pub end : ℕ
  pub from : ℕ
  pub keys : ℕ → ℕ → List Keying
  pub ticks : ℕ → ℕ → ℕ
  pub rounds : ℕ → ℕ
  pub waits : ℕ → ℕ → ℕ
  pub counted : ℕ → Bool

-- what holds at each station
pub record IsCourse (c : Course) : Type 0 where
  pub kept : (u n : ℕ) → n ≤ c.end → (base : ℕ) × KeepsRules base (c.keys u n)
  pub rise : (n : ℕ) → n < c.end → c.rounds n ≤ c.rounds (suc n)
  pub one_install : (u n : ℕ) (j k : Key) → n ≤ c.end → Has j (installs (c.keys u n))
      → Has k (installs (c.keys u n)) → j.id ≡ k.id → j ≡ k

-- A history of keys grew, through one event of a life: its clock counts the ticks, and what begins
-- does so now, where the station waits for nothing.
pub record Step (c : Course) (u n : ℕ) : Type 0 where
  pub new : List Keying
  pub whole : c.keys u (suc n) ≡ new ++ c.keys u n
  pub timed : clock new ≡ c.ticks u n
  pub begins : (e at : ℕ) → begun_at (c.keys u (suc n)) e ≡ Some at
      → (begun_at (c.keys u n) e ≡ Some at)
      ⊎ ((at ≡ clock (c.keys u (suc n))) × (c.waits u (suc n) ≡ 0))
  pub counts : c.from ≤ n → c.counted u ≡ true
      → c.ticks u n + c.waits u (suc n) + c.rounds n ≡ c.waits u n + c.rounds (suc n)

-- a station stays in one life from a moment to the end
pub record Lives (c : Course) (u a : ℕ) : Type 0 where
  pub step : (n : ℕ) → a ≤ n → n < c.end → Step c u n

-- a history grew by quiet entries
pub record GrowsQuietly (before now : List Keying) : Type 0 where
  pub new : List Keying
  pub whole : now ≡ new ++ before
  pub quiet : IsQuiet new

-- an event installs and drops nothing at a station
abbrev pub Rests : Course → ℕ → ℕ → Type 0
Rests c u n = GrowsQuietly (c.keys u n) (c.keys u (suc n))

-- so do all from one moment to another
pub record RestsThrough (c : Course) (u a b : ℕ) : Type 0 where
  pub on : (n : ℕ) → a ≤ n → n < b → Rests c u n

-- a rollover at the server, from the moment after the make on
pub record IsRollover (c : Course) (o : Rollover) : Type 0 where
  pub order : suc o.made ≤ o.start
  pub within : o.start < c.end
  pub early : c.from ≤ o.start
  pub counted : c.counted o.server ≡ true
  pub life : Lives c o.server (suc o.made)
  pub old_key : Key
  pub new_key : Key
  pub old_named : old_key.id ≡ o.old_id
  pub new_named : new_key.id ≡ o.new_id
  pub old_is : old (c.keys o.server (suc o.start)) ≡ Some old_key
  pub new_is : latest (c.keys o.server (suc o.start)) ≡ Some new_key
  pub begun : begun_at (c.keys o.server (suc o.start)) new_key.epoch
      ≡ Some (clock (c.keys o.server (suc o.start)))
  pub settled : c.waits o.server (suc o.start) ≡ 0
  pub made : latest (c.keys o.server (suc o.made)) ≡ Some new_key
  pub no_makes : RestsThrough c o.server (suc o.made) (suc o.start)
  pub makes : (n : ℕ) → suc o.start ≤ n → n < c.end → Rests c o.server n
      ⊎ ((c.ticks o.server n ≡ 1) × (allows (ticked true ∷ c.keys o.server n) ≡ true))
  pub unbegun : (u n : ℕ) (k : Key) → n ≤ o.start → Has k (installs (c.keys u n)) → k.id ≡ o.new_id
      → has_begun (c.keys u n) k.epoch ≡ false
  pub lag_short : o.lag < retire_time

-- a listener, from the moment on at which it had said that it receives the new key
pub record IsListening (c : Course) (o : Rollover) (t sent : ℕ) : Type 0 where
  pub after : suc o.made ≤ sent
  pub before : sent ≤ o.start
  pub counted : c.counted t ≡ true
  pub life : Lives c t sent
  pub new_key : Key
  pub new_named : new_key.id ≡ o.new_id
  pub new_is : latest (c.keys t sent) ≡ Some new_key
  -- it rests, but for keys that the server made after the new one
  pub takes : (n : ℕ) → sent ≤ n → n < c.end → Rests c t n
      ⊎ ((z : ℕ) × (suc o.made ≤ z) × (z < n) × (Rests c o.server z → ⊥))

-- a listener that kept the old key, and begins the new one in time
pub record IsKeeping (c : Course) (o : Rollover) (t sent : ℕ) : Type 0 where
  pub listens : IsListening c o t sent
  pub old_key : Key
  pub old_named : old_key.id ≡ o.old_id
  pub old_is : old (c.keys t sent) ≡ Some old_key
  pub soon : c.rounds (suc o.start) + o.lag < c.rounds c.end
      → (n : ℕ) × (sent ≤ n) × (n < c.end)
      × (has_begun (c.keys t (suc n)) listens.new_key.epoch ≡ true)
      × (c.rounds (suc n) ≤ c.rounds (suc o.start) + o.lag)

-- a station receives a key of an identifier
pub record Holds (id : KeyId) (h : List Keying) : Type 0 where
  pub key : Key
  pub received_here : Has key (received h)
  pub named : key.id ≡ id

-- a station sends under a key of an identifier
pub record SendsUnder (id : KeyId) (h : List Keying) : Type 0 where
  pub key : Key
  pub sends : transmitting h ≡ Some key
  pub named : key.id ≡ id
