-- What a race is, over runs: the run before it, the steps of control after that, and the logs; and
-- the run with the merged list behind it.
use Rattle.std.specs.Prelude.{◌≡◌, ◌<◌, ◌≤◌, ℕ, ◌+◌, ◌^◌, true, false, List, [], ◌∷◌}
use Rattle.std.specs.Prelude.{Option, Some, None}
use Rattle.std.specs.List.{AllByRecursion}
use Rattle.lan_base.specs.declared.association_number.AssociationNumber.{AssociationNumber}
use Rattle.lan_base.specs.declared.frame.UserFrame.{UserFrame}
use Rattle.sak_exchange.specs.declared.held_key.Key.{Key}
use Rattle.lan_core.specs.declared.event.Event.{Event}
use Rattle.lan_core.specs.declared.event.Event.TheVariants as events
use Rattle.lan_core.specs.declared.settings.Settings.{Settings}
use Rattle.lan_core.specs.Run.{Run, Happening, happened}
use Rattle.lan_core.specs.Lives.{transmitting_at}
use Rattle.lan_core.specs.Claims.{next, user_at}
use Rattle.lan_core.specs.Expected.{claim_fact, last_number}
use Rattle.lan_core.specs.Types.{IsSetting}
use Rattle.lan_core.specs.Order.{IsWithin, Exists, IsSendable, is_event_of, settled}
use Rattle.lan_core.specs.Legal.{IsStep, IsLegal, is_replaced}
use Rattle.worker_races.specs.merge.Places.{Move, Attempt, Standing, Follows}
use Rattle.worker_races.specs.merge.Marks.{Mark, Control, Claim}
use Rattle.worker_races.specs.merge.Merged.{Before, IsFit, AllPairs, InLog, Differ, AreLogged, entries_of}

-- ---- the merged list as a run

-- the epoch of the key that transmits at a station, 0 for none
abbrev pub epoch_of : Option Key → ℕ
epoch_of None = 0
epoch_of (Some k) = k.epoch

abbrev pub epoch_at : Settings → ℕ → Run → ℕ
epoch_at settings s r = epoch_of (transmitting_at settings s r)

-- what stands there, by the last epoch pointed at
abbrev pub standing_at : Settings → ℕ → ℕ → Run → Standing
standing_at settings s top r = record { transmitting = epoch_at settings s r; pointed = top }

-- the packet number that an event shows
abbrev pub shown_of : Event → ℕ
shown_of (events.Tick s next) = next
shown_of _ = 0

-- The user frame of a log, where so many came before the race: logs count from 0, user frames from
-- 1.
abbrev pub user_of : ℕ → Attempt → ℕ
user_of base x = base + x.log + 1

-- the claim of an attempt, after a run
abbrev pub claim_after : Settings → ℕ → Attempt → Run → Happening
claim_after settings base x r =
    happened (events.Claim x.station (user_of base x) x.number)
    (claim_fact settings x.station r x.number (transmitting_at settings x.station r) ∷ [])

-- a run with the marks of a list behind it
abbrev pub woven : Settings → ℕ → List Mark → Run → Run
woven settings base [] r = r
woven settings base (Control n m ∷ zs) r = woven settings base zs (m.x ∷ r)
woven settings base (Claim x ∷ zs) r =
    woven settings base zs (claim_after settings base x r ∷ r)

-- a run with the steps of control alone behind it
abbrev pub controlled : List Move → Run → Run
controlled [] r = r
controlled (m ∷ ms) r = controlled ms (m.x ∷ r)

-- ---- premises

-- The words show the core: the key that transmits at a station has an epoch above 0, and the AN
-- under which that epoch was pointed at.
abbrev pub ShowsCore : Settings → (ℕ → ℕ → AssociationNumber) → Run → Type 0
ShowsCore settings ans r = (s : ℕ) (k : Key) → transmitting_at settings s r ≡ Some k
    → (0 < k.epoch) × (k.an ≡ ans s k.epoch)

-- A step of control after a run, and what the places see of it. Where the key's epoch stays, the
-- key stays. Where nothing was present for a while, the facts drop the key that transmitted and
-- begin another.
pub record IsMove (settings : Settings) (users : List UserFrame) (r : Run) (m : Move) : Type 0 where
  pub step : IsStep settings users m.x r
  pub own : is_event_of m.station m.x.event ≡ true
  pub shown : m.shown ≡ shown_of m.x.event
  pub before : m.before ≡ epoch_at settings m.station r
  pub after : m.after ≡ epoch_at settings m.station (m.x ∷ r)
  pub same : m.after ≡ m.before
      → transmitting_at settings m.station (m.x ∷ r) ≡ transmitting_at settings m.station r
  pub gap : m.gap ≡ true → (k : Key) → transmitting_at settings m.station r ≡ Some k
      → is_replaced m.station k m.x.facts ≡ true

abbrev pub AreMoves : Settings → List UserFrame → (ℕ → ℕ → AssociationNumber) → Run → List Move
    → Type 0
AreMoves settings users ans r [] = Unit {0}
AreMoves settings users ans r (m ∷ ms) =
    IsMove settings users r m × ShowsCore settings ans (m.x ∷ r)
    × AreMoves settings users ans (m.x ∷ r) ms

-- what the places and the numbers need of the run before a race: the last epochs pointed at are
-- those of control's words
abbrev pub before_of : Settings → (ℕ → ℕ) → Run → Before
before_of settings pointed r = record {
  standing = λ s. standing_at settings s (pointed s) r;
  next_of = λ s e. next settings s e r;
  settled_of = λ s e. next settings s e (settled s r);
}

-- an attempt of a station of the run, with its user frame
pub record IsAttempt (users : List UserFrame) (base : ℕ) (ans : ℕ → ℕ → AssociationNumber) (r : Run)
    (x : Attempt) : Type 0 where
  pub there : Exists x.station r
  pub place : x.station < 2 ^ 8
  pub user : user_of base x < 2 ^ 32
  pub sendable : IsSendable (user_at users (user_of base x))
  pub taken : x.refused ≡ false → (1 ≤ x.number) × (x.number ≤ last_number)
      × (x.an ≡ ans x.station x.epoch)
  pub none : x.refused ≡ true → x.number ≡ 0

-- A race after a run: control, by what its words were told, and the logs, by what the seats and the
-- workers say.
pub record IsRaced (settings : Settings) (users : List UserFrame) (base : ℕ)
    (ans : ℕ → ℕ → AssociationNumber) (pointed : ℕ → ℕ) (r : Run) (ms : List Move)
    (logs : List (List Attempt)) : Type 0 where
  pub setting : IsSetting settings
  pub within : IsWithin r
  pub legal : IsLegal settings users r
  pub shows : ShowsCore settings ans r
  pub moves : AreMoves settings users ans r ms
  pub follows : (s : ℕ) → Follows s (standing_at settings s (pointed s) r) ms
  pub low : (s : ℕ) → epoch_at settings s r ≤ pointed s
  pub claims : AllByRecursion (AllByRecursion (IsAttempt users base ans r)) logs
  pub fit : AllByRecursion (AllByRecursion (IsFit (before_of settings pointed r) ms)) logs
  pub in_log : AllByRecursion (AllPairs InLog) logs
  pub logged : AreLogged 0 logs
  pub differ : AllPairs Differ (entries_of logs)
