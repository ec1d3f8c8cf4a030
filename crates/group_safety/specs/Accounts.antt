-- What a run tells of the transmit associations of a station, and what an event adds to it.
use Rattle.std.specs.Prelude.{◌≡◌, ℕ, ◌+◌, ◌==◌, ◌&&◌, if◌then◌else◌, nat_lt, max}
use Rattle.std.specs.Prelude.{List, [], ◌∷◌}
use Rattle.lan_core.specs.declared.event.Event.{Event}
use Rattle.lan_core.specs.declared.event.Event.TheVariants as events
use Rattle.lan_core.specs.declared.settings.Settings.{Settings}
use Rattle.lan_core.specs.Run.{Run}
use Rattle.lan_core.specs.Ledgers.{Claim, claims}
use Rattle.lan_core.specs.Lives.{transmitting_at}
use Rattle.lan_core.specs.Claims.{next}
use Rattle.lan_core.specs.Unstopped.{next_under}
use Rattle.group_safety.specs.Transmitting.{Carried, now, nothing}

-- what transmits, the next number of each epoch, the numbers that were claimed, each with its
-- epoch, and the numbers above 0 that ticks showed, both newest first
pub record Account : Type 0 where
  pub carried : Carried
  pub nexts : ℕ → ℕ
  pub claims : List (ℕ × ℕ)
  pub shows : List ℕ

-- nothing happened
abbrev pub blank : Account
blank = record { carried = nothing; nexts = λ epoch. 1; claims = []; shows = [] }

-- the next number under the key that transmits, and 0 without one
abbrev pub next_now : Account → ℕ
next_now a = if (now a.carried).present then a.nexts (now a.carried).epoch else 0

-- ---- after a run

-- the numbers that a station claimed, each with its epoch
abbrev pub numbers_at : ℕ → List Claim → List (ℕ × ℕ)
numbers_at s [] = []
numbers_at s (c ∷ cs) =
    if c.station == s then (c.epoch, c.pn) ∷ numbers_at s cs else numbers_at s cs

-- the numbers above 0 that ticks of a station showed
abbrev pub shown_at : ℕ → Event → List ℕ → List ℕ
shown_at s (events.Tick station n) ns =
    if station == s then if nat_lt 0 n then n ∷ ns else ns else ns
shown_at s _ ns = ns

abbrev pub shows_at : ℕ → Run → List ℕ
shows_at s [] = []
shows_at s (x ∷ r) = shown_at s x.event (shows_at s r)

-- what a run tells of a station, where this transmits there
abbrev pub account_at : Settings → ℕ → Run → Carried → Account
account_at settings s r k = record {
  carried = k;
  nexts = λ epoch. next settings s epoch r;
  claims = numbers_at s (claims r);
  shows = shows_at s r;
}

-- ---- what an event adds before its facts move anything

-- the next number was shown, if a key transmits
abbrev pub looked : Account → Account
looked a = record a {
  shows = if (now a.carried).present then next_now a ∷ a.shows else a.shows;
}

-- a number of an epoch was claimed
abbrev pub with_claim : ℕ → ℕ → Account → Account
with_claim epoch pn a = record a {
  nexts = λ e. if e == epoch then pn + 1 else a.nexts e;
  claims = (epoch, pn) ∷ a.claims;
}

-- the next number was claimed, if a key transmits
abbrev pub claiming : Account → Account
claiming a = if (now a.carried).present then with_claim (now a.carried).epoch (next_now a) a else a

-- what an event adds to the account of a station
abbrev pub ahead : ℕ → Event → Account → Account
ahead s (events.Tick station n) a = if station == s then looked a else a
ahead s (events.Claim station user pn) a = if station == s then claiming a else a
ahead s _ a = a

-- ---- the same, where a number that is shown or claimed may be any

-- a number was shown: under the key that transmits, if one does, no next number is below it
abbrev pub showing : ℕ → Account → Account
showing n a = record a {
  nexts = λ e. if (now a.carried).present && (e == (now a.carried).epoch)
      then max n (a.nexts e) else a.nexts e;
  shows = if nat_lt 0 n then n ∷ a.shows else a.shows;
}

-- a number was claimed, if a key transmits and the number isn't 0
abbrev pub gaining : ℕ → Account → Account
gaining n a = if (now a.carried).present && nat_lt 0 n then record a {
  nexts = λ e. if e == (now a.carried).epoch then max (n + 1) (a.nexts e) else a.nexts e;
  claims = ((now a.carried).epoch, n) ∷ a.claims;
} else a

-- what an event adds to the account of a station, whatever number it shows or claims
abbrev pub onward : ℕ → Event → Account → Account
onward s (events.Tick station n) a = if station == s then showing n a else a
onward s (events.Claim station user pn) a = if station == s then gaining pn a else a
onward s _ a = a

-- an event shows and claims the next packet number, and no other
abbrev pub IsExact : Settings → Run → Event → Type 0
IsExact settings r (events.Tick s n) = n ≡ next_under settings s r (transmitting_at settings s r)
IsExact settings r (events.Claim s user pn) =
    pn ≡ next_under settings s r (transmitting_at settings s r)
IsExact settings r _ = Unit {0}

-- how many numbers an event may claim
abbrev pub claims_of : Event → ℕ
claims_of (events.Claim s user pn) = 1
claims_of _ = 0
