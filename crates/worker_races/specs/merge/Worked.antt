-- What is known of the logs of workers, by what their seats did and what control knows once they
-- were told.
use Rattle.std.specs.Prelude.{◌≡◌, ◌⊎◌, ◌<◌, ◌≤◌, ℕ, ◌+◌, ◌==◌, ◌&&◌, false, List, [], ◌∷◌}
use Rattle.lan_base.specs.declared.association_number.AssociationNumber.{AssociationNumber}
use Rattle.association_slots.specs.declared.view.Current.{Current}
use Rattle.association_slots.specs.declared.view.NextSeen.{NextSeen}
use Rattle.association_slots.specs.declared.view.Start.{Start}
use Rattle.association_slots.specs.Views.{In, WasAbsent, one, present_at}
use Rattle.packet_claims.specs.declared.answers.NoClaim.TheVariants.{Exhausted}
use Rattle.data_workers.specs.declared.entry.Entry.{Entry}
use Rattle.data_workers.specs.declared.entry.Entry.TheVariants.{Taken, Refused}
use Rattle.lan_core.specs.declared.settings.Settings.{Settings}
use Rattle.lan_core.specs.Run.{Run}
use Rattle.lan_core.specs.Claims.{next}
use Rattle.worker_races.specs.merge.Raced.{epoch_at}

-- ---- when a worker was made

-- the least next number that a seat was given is not below that of the run; of an epoch that has
-- not begun that is 1
abbrev pub IsGivenNext : Settings → (ℕ → AssociationNumber) → ℕ → Run → Start → ℕ → Type 0
IsGivenNext settings ans s r start e =
    (next settings s e r ≤ 1) ⊎ ((f : NextSeen) × In f start.given × (f.an ≡ ans e)
    × (f.epoch ≡ e) × (next settings s e r ≤ f.next))

-- A seat of a station was made after a run, when the current word had been told this: the last
-- epoch pointed at was top, and it transmits where a key does.
pub record BeganAfter (settings : Settings) (ans : ℕ → AssociationNumber) (s top : ℕ) (r : Run)
    (old : List Current) (start : Start) : Type 0 where
  pub last : start.last ≡ top
  pub absent : epoch_at settings s r ≡ 0 → start.present ≡ false
  pub sends : 0 < epoch_at settings s r → epoch_at settings s r ≡ top
  pub points_low : (an : AssociationNumber) (e : ℕ) → In (present_at an e) old → e ≤ top
  pub absent_low : (e : ℕ) → WasAbsent old e
      → (e ≤ top) × (0 < epoch_at settings s r → e < top)
  pub nexts : (e : ℕ) → top ≤ e → (start.present ≡ false → top < e)
      → IsGivenNext settings ans s r start e

-- each epoch was pointed at under its association number
abbrev pub AreAns : (ℕ → AssociationNumber) → List Current → Type 0
AreAns ans points =
    (an : AssociationNumber) (e : ℕ) → In (present_at an e) points → an ≡ ans e

-- ---- logs

-- no entry says that an epoch has no number left
abbrev pub NoneExhausted : List Entry → Type 0
NoneExhausted [] = Unit {0}
NoneExhausted (Refused s (Exhausted epoch) ∷ log) = ⊥
NoneExhausted (e ∷ log) = NoneExhausted log

-- how many frames of a log have this number of this epoch of a station
abbrev pub times_in : ℕ → ℕ → ℕ → List Entry → ℕ
times_in s epoch pn [] = 0
times_in s epoch pn (Taken p ∷ log) =
    one ((p.station == s) && ((p.epoch == epoch) && (p.pn == pn))) + times_in s epoch pn log
times_in s epoch pn (Refused station why ∷ log) = times_in s epoch pn log

-- how many frames of all logs
abbrev pub times_in_all : ℕ → ℕ → ℕ → List (List Entry) → ℕ
times_in_all s epoch pn [] = 0
times_in_all s epoch pn (log ∷ logs) = times_in s epoch pn log + times_in_all s epoch pn logs
