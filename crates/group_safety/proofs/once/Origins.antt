-- Where an announcement comes from: a tick at which a station said it.
use Rattle.std.proofs.Common.{◌≡◌, ap, ℕ, List, ◌∷◌, ◌++◌, Some}
use Rattle.mkpdu_codec.specs.declared.announcement.Announcement.{Announcement}
use Rattle.mka_station.specs.Tick.{says_at}
use Rattle.lan_core.specs.declared.event.Event.TheVariants as events
use Rattle.lan_core.specs.declared.fact.Fact.{Fact}
use Rattle.lan_core.specs.declared.settings.Settings.{Settings}
use Rattle.lan_core.specs.Run.{Run, Happening, happened}
use Rattle.lan_core.specs.Lives.{Life, life, seen_at, sak_in}

-- a station says this at a tick after a run
pub record IsSaidAt (settings : Settings) (front : Run) (s next : ℕ) (f : List Fact)
    (a : Announcement) :
    Type 0 where
  pub by : Life
  pub living : life settings s front ≡ Some by
  pub says : says_at by.member (seen_at settings s front by next) (sak_in f) by.past ≡ Some a

-- it was said in the run
pub record IsSaid (settings : Settings) (r : Run) (a : Announcement) : Type 0 where
  pub later : Run
  pub front : Run
  pub station : ℕ
  pub next : ℕ
  pub shown : List Fact
  pub split : r ≡ later ++ happened (events.Tick station next) shown ∷ front
  pub at : IsSaidAt settings front station next shown a

pub said-later : (settings : Settings) (x : Happening) (r : Run) (a : Announcement)
    → IsSaid settings r a
    → IsSaid settings (x ∷ r) a
said-later settings x r a s = record {
  later = x ∷ s.later;
  front = s.front;
  station = s.station;
  next = s.next;
  shown = s.shown;
  split = ap (λ w. x ∷ w) s.split;
  at = s.at;
}
