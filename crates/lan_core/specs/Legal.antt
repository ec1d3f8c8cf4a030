-- Legal runs of a group.
use Rattle.std.specs.Prelude.{◌≡◌, ◌≤◌, ℕ, ◌-◌, ◌==◌, Bool, true, false, if◌then◌else◌, not, ◌&&◌}
use Rattle.std.specs.Prelude.{List, [], ◌∷◌, length, Option, Some, None}
use Rattle.std.specs.List.{list_any, filter, range_with_len}
use Rattle.lan_base.specs.declared.frame.UserFrame.{UserFrame}
use Rattle.sak_exchange.specs.declared.held_key.Key.{Key}
use Rattle.mka_station.specs.Announcing.{same_key}
use Rattle.lan_core.specs.declared.fact.Fact.{Fact}
use Rattle.lan_core.specs.declared.fact.Fact.TheVariants as facts
use Rattle.lan_core.specs.declared.fact.Lack.TheVariants.{NoKey}
use Rattle.lan_core.specs.declared.settings.Settings.{Settings}
use Rattle.lan_core.specs.Run.{Run, Happening}
use Rattle.lan_core.specs.Ledgers.{Claim, claims}
use Rattle.lan_core.specs.Lives.{transmitting_at}
use Rattle.lan_core.specs.Claims.{next}
use Rattle.lan_core.specs.Expected.{expected, drawn_in}
use Rattle.lan_core.specs.Types.{IsSetting}
use Rattle.lan_core.specs.Order.{IsWithin, IsInOrder, is_event_of}

-- one event more, in a group that may be set up so: it is in order, it shows exactly what it has
-- to, and the run stays within the limits
pub record IsStep (settings : Settings) (users : List UserFrame) (x : Happening) (r : Run) :
    Type 0 where
  pub setting : IsSetting settings
  pub in_order : IsInOrder settings users r x
  pub shows : expected settings users r x.event (drawn_in x.facts) ≡ Some x.facts
  pub within : IsWithin (x ∷ r)

-- a stepped run: each of its events is such a step after those before it
abbrev pub IsStepped : Settings → List UserFrame → Run → Type 0
IsStepped settings users [] = Unit {0}
IsStepped settings users (x ∷ r) = IsStep settings users x r × IsStepped settings users r

-- ---- refused claims

-- The next event of each station that is no claim. It came later, so the way back through a run
-- meets it first.
abbrev pub Ahead : Type 0
Ahead = ℕ → Option Happening

abbrev pub none_ahead : Ahead
none_ahead s = None

abbrev pub with_ahead : Happening → Ahead → Ahead
with_ahead x ahead s = if is_event_of s x.event then Some x else ahead s

abbrev pub is_drop_of : ℕ → Key → Fact → Bool
is_drop_of s k (facts.Dropped station id an) = (station == s) && same_key id k.id
is_drop_of s k _ = false

abbrev pub is_beginning : ℕ → Fact → Bool
is_beginning s (facts.Began station id an epoch cause) = station == s
is_beginning s _ = false

-- a key is dropped, and another begins, in these facts
abbrev pub is_replaced : ℕ → Key → List Fact → Bool
is_replaced s k facts = list_any (is_drop_of s k) facts && list_any (is_beginning s) facts

-- nothing transmits, or the station's next event replaces the key that transmits
abbrev pub is_excuse : ℕ → Option Key → Option Happening → Bool
is_excuse s None y = true
is_excuse s (Some k) None = false
is_excuse s (Some k) (Some y) = is_replaced s k y.facts

-- whether an event is excused: it is, unless it refused a claim since no key was there
abbrev pub is_excused_by : Settings → Run → Ahead → List Fact → Bool
is_excused_by settings r ahead (facts.Unclaimed s NoKey ∷ []) =
    is_excuse s (transmitting_at settings s r) (ahead s)
is_excused_by settings r ahead _ = true

-- each event is excused, given what comes ahead of the run
abbrev pub IsExcusedBefore : Settings → Ahead → Run → Type 0
IsExcusedBefore settings ahead [] = Unit {0}
IsExcusedBefore settings ahead (x ∷ r) =
    (is_excused_by settings r ahead x.facts ≡ true)
    × IsExcusedBefore settings (with_ahead x ahead) r

abbrev pub IsExcused : Settings → Run → Type 0
IsExcused settings r = IsExcusedBefore settings none_ahead r

-- a legal run
pub record IsLegal (settings : Settings) (users : List UserFrame) (r : Run) : Type 0 where
  pub stepped : IsStepped settings users r
  pub excused : IsExcused settings r

-- ---- thrift

abbrev pub is_claim_of : ℕ → ℕ → ℕ → Claim → Bool
is_claim_of s epoch pn c = (c.station == s) && ((c.epoch == epoch) && (c.pn == pn))

-- whether nobody has claimed a number
abbrev pub is_unused : ℕ → ℕ → Run → ℕ → Bool
is_unused s epoch r pn = not (list_any (is_claim_of s epoch pn) (claims r))

-- how many numbers below the next one nobody has claimed
abbrev pub unused : Settings → ℕ → ℕ → Run → ℕ
unused settings s epoch r =
    length (filter (is_unused s epoch r) (range_with_len 1 (next settings s epoch r - 1)))

-- at each moment at most 16 numbers of a key at a station are claimed by nobody
abbrev pub IsThrifty : Settings → Run → Type 0
IsThrifty settings [] = Unit {0}
IsThrifty settings (x ∷ r) =
    ((s epoch : ℕ) → unused settings s epoch (x ∷ r) ≤ 16) × IsThrifty settings r
