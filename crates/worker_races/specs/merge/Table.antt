-- What the changes of a station's keys tell its current word, oldest first: a key that begins is
-- pointed at, and where the key that transmits is dropped the word is unpointed.
use Rattle.std.specs.Prelude.{◌≡◌, ◌<◌, ℕ, ◌==◌, ◌&&◌, Bool, true, false, if◌then◌else◌, List, []}
use Rattle.std.specs.Prelude.{◌∷◌, ◌++◌, Option, Some, None, option_map}
use Rattle.lan_base.specs.declared.association_number.AssociationNumber.{AssociationNumber}
use Rattle.lan_base.specs.AssociationNumbers.{same_an}
use Rattle.sak_exchange.specs.declared.change.Change.{Change}
use Rattle.sak_exchange.specs.declared.change.Change.TheVariants.{Dropped, Retired, Began}
use Rattle.sak_exchange.specs.declared.change.Change.TheVariants.{Installed, Untaken}
use Rattle.sak_exchange.specs.declared.held_key.Key.{Key}
use Rattle.lan_core.specs.declared.settings.Settings.{Settings}
use Rattle.lan_core.specs.Run.{Run, Happening}
use Rattle.lan_core.specs.Lives.{transmitting_at}
use Rattle.worker_races.specs.merge.Places.{Move, last_of}
use Rattle.worker_races.specs.merge.Raced.{epoch_at, shown_of}
use Rattle.lan_core.specs.declared.fact.Fact.{Fact}
use Rattle.lan_core.specs.declared.fact.Fact.TheVariants as facts
use Rattle.group_safety.specs.Transmitting.{Sending, transmits}
use Rattle.association_slots.specs.declared.view.Current.{Current}
use Rattle.association_slots.specs.Views.{absent_after, present_at}

-- whether this is the AN of the key that transmits, if one does
abbrev pub is_an : AssociationNumber → Option AssociationNumber → Bool
is_an an None = false
is_an an (Some sending) = same_an an sending

abbrev pub an_of : Option Key → Option AssociationNumber
an_of None = None
an_of (Some k) = Some k.an

-- by the last epoch pointed at, and the AN of the key that transmits
abbrev pub calls : ℕ → Option AssociationNumber → List Change → List Current
calls top o [] = []
calls top o (Dropped h ∷ cs) =
    if is_an h.key.an o then absent_after top ∷ calls top None cs else calls top o cs
calls top o (Retired h ∷ cs) = calls top o cs
calls top o (Began h cause ∷ cs) =
    present_at h.key.an h.key.epoch ∷ calls h.key.epoch (Some h.key.an) cs
calls top o (Installed h ∷ cs) = calls top o cs
calls top o (Untaken id why ∷ cs) = calls top o cs

-- What an event told the word, by the keys that transmit before and after it: nothing, where the
-- key stays; an unpoint, where it ends; a point, where one begins; or both.
pub data IsTold (top : ℕ) (before after : Option Key) (words : List Current) : Type 0 where
  stays : after ≡ before → words ≡ [] → IsTold top before after words
  ends : (k : Key) → before ≡ Some k → after ≡ None → words ≡ absent_after top ∷ []
      → IsTold top before after words
  begins : (b : Key) → after ≡ Some b → ((k : Key) → before ≡ Some k → k.epoch < b.epoch)
      → words ≡ present_at b.an b.epoch ∷ [] → IsTold top before after words
  changes : (k b : Key) → before ≡ Some k → after ≡ Some b → k.epoch < b.epoch
      → words ≡ absent_after top ∷ present_at b.an b.epoch ∷ [] → IsTold top before after words

-- what the facts of an event told the word of station s, by the last epoch pointed at and the AN of the
-- key that transmits
abbrev pub words_of : ℕ → ℕ → Option AssociationNumber → List Fact → List Current
words_of s top o [] = []
words_of s top o (facts.Began t id an epoch cause ∷ later) =
    if t == s then present_at an epoch ∷ words_of s epoch (Some an) later
    else words_of s top o later
words_of s top o (facts.Dropped t id an ∷ later) =
    if (t == s) && is_an an o then absent_after top ∷ words_of s top None later
    else words_of s top o later
words_of s top o (fact ∷ later) = words_of s top o later

-- whether it was told two words
abbrev pub is_gap : List Current → Bool
is_gap (w ∷ v ∷ words) = true
is_gap _ = false

-- an event of a station after a run, as the places see it
abbrev pub move_at : Settings → ℕ → ℕ → Run → Happening → Move
move_at settings s top r x = record {
  x = x;
  station = s;
  before = epoch_at settings s r;
  after = epoch_at settings s (x ∷ r);
  shown = shown_of x.event;
  gap = is_gap (words_of s top (an_of (transmitting_at settings s r)) x.facts);
}

-- two words or fewer, newest first
abbrev pub flipped : List Current → List Current
flipped (w ∷ v ∷ words) = v ∷ w ∷ []
flipped words = words

-- ---- the same by what the facts move

-- what transmits, as the current word shows it
abbrev pub current_of : Sending → Current
current_of p = record { epoch = p.epoch; present = p.present; an = p.an }

-- the AN of what transmits, if anything does
abbrev pub an_in : Sending → Option AssociationNumber
an_in p = option_map (λ q. q.0) (transmits p)

-- ---- all of control

-- the station of each event of control, and the event with its facts
abbrev pub Controls : Type 0
Controls = List (ℕ × Happening)

-- the last epochs, with one more at a station
abbrev pub with_top : ℕ → ℕ → (ℕ → ℕ) → ℕ → ℕ
with_top s top tops t = if s == t then top else tops t

-- the events of control after a run as the places see them, by the last epoch of each station
abbrev pub moves_at : Settings → (ℕ → ℕ) → Run → Controls → List Move
moves_at settings tops r [] = []
moves_at settings tops r ((s, x) ∷ xs) =
    let m = move_at settings s (tops s) r x in
    m ∷ moves_at settings (with_top s (last_of (tops s) m) tops) (x ∷ r) xs

-- what they told the current word of a station, newest first
abbrev pub words_in : Settings → ℕ → ℕ → Run → Controls → List Current
words_in settings s top r [] = []
words_in settings s top r ((t, x) ∷ xs) =
    if t == s
    then words_in settings s (last_of top (move_at settings s top r x)) (x ∷ r) xs
    ++ flipped (words_of s top (an_of (transmitting_at settings s r)) x.facts)
    else words_in settings s top (x ∷ r) xs
