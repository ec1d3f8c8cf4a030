-- What a group holds, and for which runs it stands: the only place that knows of tables and counts.
use Rattle.std.specs.Prelude.{◌≡◌, ◌≤◌, ℕ, ◌+◌, ◌-◌, ◌==◌, if◌then◌else◌, List, [], ◌∷◌, ◌++◌, map, drop, length, slice_get}
use Rattle.std.specs.Prelude.{Option, Some, None, option_map}
use Rattle.std.specs.Map.{lookup}
use Rattle.std.specs.BTreeMap.{is_at}
use Rattle.std.specs.Ordering.{nat_cmp}
use Rattle.std.specs.Cmp.Lexicographic.{slice_cmp}
use Rattle.lan_base.specs.declared.address.Mi.{Mi}
use Rattle.lan_base.specs.declared.address.Sci.{Sci}
use Rattle.lan_base.specs.declared.name.Name.{Name}
use Rattle.lan_base.specs.declared.frame.UserFrame.{UserFrame}
use Rattle.lan_base.specs.declared.suite.Suite.{Suite}
use Rattle.lan_base.specs.Identifiers.{order}
use Rattle.aes_block.specs.declared.secret.Secret.{Secret}
use Rattle.aes_block.specs.declared.secret.Secret.TheVariants.{S128, S256}
use Rattle.peer_lists.specs.Histories.{clock, last_sent}
use Rattle.sak_exchange.specs.Histories.{install_count}
use Rattle.rx_slots.specs.Histories.{Receiving}
use Rattle.rx_slots.specs.Slots.{Slots}
use Rattle.rx_slots.specs.Standing.{StandsFor as SlotsStandFor}
use Rattle.mka_station.specs.Lives.{peers_of, keys_of}
use Rattle.mka_station.specs.Standing.{State as Station, StandsFor as StationStandsFor}
use Rattle.lan_core.specs.declared.settings.Settings.{Settings}
use Rattle.lan_core.specs.declared.stop.StepError.{StepError}
use Rattle.lan_core.specs.declared.waiting.Sealed.{Sealed}
use Rattle.lan_core.specs.Run.{Run, Profile, stations}
use Rattle.lan_core.specs.Ledgers.{Frame, air, emitted, installs_at, AreNumbered}
use Rattle.lan_core.specs.Lives.{Life, life, receiving, setup_of}
use Rattle.lan_core.specs.Claims.{Waiting, claimed, frame_of_claim}
use Rattle.lan_core.specs.Order.{ticks, IsWithin}
use Rattle.lan_core.specs.Types.{IsSetting}
use Rattle.lan_core.specs.Stops.{draws_in, mi_number, sak_number}

-- ---- a station with its receive slots

-- the station and its receive slots, how many ticks its life has, and how many keys it installed
-- over all its lives
pub record Seat : Type 0 where
  pub station : Station
  pub slots : Slots
  pub ticks : ℕ
  pub installs : ℕ

-- a seat stands for a life, and for the history of its receive slots
pub record Sits (window : ℕ) (l : Life) (h : List Receiving) (seat : Seat) : Type 0 where
  pub station : StationStandsFor l.member seat.station l.past
  pub slots : SlotsStandFor l.member.setup.sci window seat.slots h
  pub ticks : seat.ticks ≡ clock (peers_of l.member l.past)
  pub sent : last_sent (peers_of l.member l.past) ≤ seat.ticks
  pub installs : seat.installs ≡ l.member.base + install_count (keys_of l.member l.past)

-- a seat stands for a life, whatever its receive slots are
pub record IsAlive (l : Life) (seat : Seat) : Type 0 where
  pub station : StationStandsFor l.member seat.station l.past
  pub ticks : seat.ticks ≡ clock (peers_of l.member l.past)
  pub sent : last_sent (peers_of l.member l.past) ≤ seat.ticks
  pub installs : seat.installs ≡ l.member.base + install_count (keys_of l.member l.past)

-- a seat stands for some life
abbrev pub IsSeat : Seat → Type 0
IsSeat seat = (l : Life) × IsAlive l seat

-- A place has a seat, a life and a profile, which agree with what its slots received and with so
-- many installs, or none of them and nothing happened there.
abbrev pub IsSeated : Settings → List Receiving → ℕ → Option Seat → Option Life → Option Profile
    → Type 0
IsSeated settings h count (Some seat) (Some l) (Some p) =
    Sits settings.window l h seat × (l.member.setup ≡ setup_of settings p) × (seat.installs ≡ count)
IsSeated settings h count None None None = (h ≡ []) × (count ≡ 0)
IsSeated settings h count _ _ _ = ⊥

-- ---- draws

-- how many draws there were, and the numbers of those that gave member identifiers, and keys of
-- either length
pub record Numbers : Type 0 where
  pub count : ℕ
  pub mis : List (Mi × ℕ)
  pub narrow : List (List ℕ × ℕ)
  pub wide : List (List ℕ × ℕ)

abbrev pub number_of_mi : Numbers → Mi → Option ℕ
number_of_mi n mi = lookup (is_at (order mi)) n.mis

abbrev pub number_of_sak : Numbers → Secret → Option ℕ
number_of_sak n (S128 octets) = lookup (is_at (slice_cmp nat_cmp octets)) n.narrow
number_of_sak n (S256 octets) = lookup (is_at (slice_cmp nat_cmp octets)) n.wide

pub record AreDrawn (suite : Suite) (r : Run) (n : Numbers) : Type 0 where
  pub count : n.count ≡ draws_in suite r
  pub mis : (mi : Mi) → number_of_mi n mi ≡ mi_number suite r mi
  pub saks : (sak : Secret) → number_of_sak n sak ≡ sak_number suite r sak

-- ---- the air, and what waits for it

-- the octets of frames, oldest first
abbrev pub in_order : List Frame → List (List ℕ)
in_order [] = []
in_order (frame ∷ earlier) = in_order earlier ++ frame.octets ∷ []

-- the frame of a number, from 1
abbrev pub octets_at : List (List ℕ) → ℕ → Option (List ℕ)
octets_at frames number = if number == 0 then None else slice_get frames (number - 1)

-- a claim's frame, and whose it is
abbrev pub sealed_of : List UserFrame → Run → Waiting → Option Sealed
sealed_of users r w =
    option_map (λ octets. record { station = w.station; octets = octets })
    (frame_of_claim users r w)

-- ---- the group

-- what contracts see of a group; why it was stopped, if it was
pub record State : Type 0 where
  pub settings : Settings
  pub stopped : Option StepError
  pub names : List Name
  pub air : List (List ℕ)
  pub seats : List Seat
  pub waiting : List Sealed
  pub ticks : ℕ
  pub drawn : Numbers

-- the SCIs of the stations, in the order of their starts
abbrev pub scis_in : State → List Sci
scis_in lan = map (λ seat. seat.station.setup.sci) lan.seats

-- A group stands for a run: it is not stopped, and has the run's stations, air, frames that wait,
-- ticks and draws.
pub record StandsFor (settings : Settings) (users : List UserFrame) (lan : State)
    (r : Run) : Type 0 where
  pub set_up : lan.settings ≡ settings
  pub setting : IsSetting settings
  pub goes : lan.stopped ≡ None
  pub names : lan.names ≡ map (λ p. p.name) (stations r)
  pub on_air : lan.air ≡ in_order (air r)
  pub numbered : AreNumbered (air r)
  pub seats : (s : ℕ) → IsSeated settings (receiving s r) (length (installs_at s r))
      (slice_get lan.seats s)
      (life settings s r) (slice_get (stations r) s)
  pub waiting : map Some lan.waiting ≡ map (sealed_of users r)
      (drop (length (emitted r)) (claimed settings r))
  pub in_turn : length (emitted r) ≤ length (claimed settings r)
  pub ticked : lan.ticks ≡ ticks r
  pub drawn : AreDrawn settings.suite r lan.drawn
  pub within : IsWithin r
