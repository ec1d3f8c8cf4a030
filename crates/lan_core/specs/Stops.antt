-- When an event may come by its caller's conditions, and the first stop that it meets: draws that
-- are spent, a limit in the order of the table, a repeated draw, foreign octets that are forged
-- (this profile's own rules).
use Rattle.std.specs.Prelude.{◌≡◌, ◌<◌, ◌≤◌, ◌⊎◌, ℕ, ◌+◌, ◌-◌, ◌==◌, Bool, true, false, if◌then◌else◌, nat_lt}
use Rattle.std.specs.Prelude.{List, [], ◌∷◌, map, sum, length, Option, Some, None, is_some, is_none, option_map, option_and_then}
use Rattle.std.specs.Option.{option_or}
use Rattle.std.specs.List.{list_any}
use Rattle.lan_base.specs.declared.address.Mi.{Mi}
use Rattle.lan_base.specs.declared.frame.UserFrame.{UserFrame}
use Rattle.lan_base.specs.declared.suite.Suite.{Suite}
use Rattle.lan_base.specs.Identifiers.{same_mi}
use Rattle.lan_base.specs.Ranges.{most_frame_octets, most_frames, most_ticks}
use Rattle.lan_base.specs.Suites.{sak_draws}
use Rattle.aes_block.specs.declared.secret.Secret.{Secret}
use Rattle.aes_block.specs.Secrets.{same_secret}
use Rattle.sak_exchange.specs.declared.held_key.Key.{Key}
use Rattle.mka_station.specs.Drawing.{draws_at}
use Rattle.lan_core.specs.declared.event.Event.{Event}
use Rattle.lan_core.specs.declared.event.Event.TheVariants as events
use Rattle.lan_core.specs.declared.fact.Fact.{Fact}
use Rattle.lan_core.specs.declared.settings.Settings.{Settings}
use Rattle.lan_core.specs.declared.stop.Stop.{Stop}
use Rattle.lan_core.specs.declared.stop.Stop.TheVariants.{DrawsSpent, Limit, RepeatedDraw, Forged}
use Rattle.lan_core.specs.declared.stop.Which.{Which}
use Rattle.lan_core.specs.declared.stop.Which.TheVariants.{Frames, Octets, Ticks, Keys, Stations}
use Rattle.lan_core.specs.Run.{Run, Happening, happened, stations}
use Rattle.lan_core.specs.Ledgers.{air, frame_at, installs, installs_at}
use Rattle.lan_core.specs.Lives.{Life, life, seen_at, drawn_mi, drawn_sak, transmitting_at}
use Rattle.lan_core.specs.Claims.{next, waiting, user_at}
use Rattle.lan_core.specs.Expected.{expected, drawn_from, last_number}
use Rattle.lan_core.specs.Order.{Exists, IsNew, IsSendable, ticks, most_stations, most_octets, most_installs}
use Rattle.lan_core.specs.Fresh.{is_forged}

-- ---- when an event may come

-- the number that a tick shows under the key that transmits
abbrev pub IsNextShown : Settings → ℕ → Run → ℕ → Option Key → Type 0
IsNextShown settings s r shown None = shown ≡ 0
IsNextShown settings s r shown (Some k) = (1 ≤ shown) × (next settings s k.epoch r ≤ shown)

-- A claim of a packet number is given its user frame. One without a number comes only where none
-- is left.
abbrev pub IsDemanded : Settings → ℕ → Run → ℕ → Option UserFrame → Option UserFrame → Option Key
    → Type 0
IsDemanded settings s r pn given named None = pn ≡ 0
IsDemanded settings s r pn given named (Some k) =
    ((pn ≡ 0) × (last_number < next settings s k.epoch r))
    ⊎ ((1 ≤ pn) × (next settings s k.epoch r ≤ pn) × (pn ≤ last_number) × (given ≡ named))

-- an event may come, with the user frame that is given with it
abbrev pub MayCome : Settings → List UserFrame → Run → Option UserFrame → Event → Type 0
MayCome settings users r given (events.Start name sci priority) = IsNew name sci r
MayCome settings users r given (events.Tick s shown) =
    Exists s r × IsNextShown settings s r shown (transmitting_at settings s r)
MayCome settings users r given (events.Deliver frame s) =
    Exists s r × (is_some (frame_at r frame) ≡ true)
MayCome settings users r given (events.Restart s) = Exists s r
MayCome settings users r given (events.Claim s user pn) =
    Exists s r × IsSendable (user_at users user)
    × IsDemanded settings s r pn given (user_at users user) (transmitting_at settings s r)
MayCome settings users r given events.Emit = is_some (waiting settings r) ≡ true
MayCome settings users r given (events.Inject s octets) =
    Exists s r × (length octets ≤ most_frame_octets)

-- ---- draws

-- how many draws a tick takes
abbrev pub draws_at_tick : Settings → ℕ → Run → ℕ → Option Life → ℕ
draws_at_tick settings s r next None = 0
draws_at_tick settings s r next (Some l) = draws_at l.member l.past (seen_at settings s r l next)

-- how many draws an event takes
abbrev pub draws_needed : Settings → Run → Event → ℕ
draws_needed settings r (events.Start name sci priority) = 1
draws_needed settings r (events.Tick s next) = draws_at_tick settings s r next (life settings s r)
draws_needed settings r (events.Restart s) = 1
draws_needed settings r _ = 0

-- the last of so many draws is not there
abbrev pub is_spent : ℕ → (ℕ → Option (List ℕ)) → Bool
is_spent count nth = if count == 0 then false else is_none (nth (count - 1))

-- the SAK that a happening drew
abbrev pub sak_of_tick : List Fact → Event → Option Secret
sak_of_tick facts (events.Tick s next) = drawn_sak facts
sak_of_tick facts _ = None

-- how many draws a happening took: one for a member identifier, and as many as a key takes for a
-- key
abbrev pub draws_by : Suite → Happening → ℕ
draws_by suite x =
    (if is_some (drawn_mi x.facts) then 1 else 0)
    + (if is_some (sak_of_tick x.facts x.event) then sak_draws suite else 0)

-- how many draws a run took
unfoldable pub draws_in : Suite → Run → ℕ
draws_in suite [] = 0
draws_in suite (x ∷ r) = draws_by suite x + draws_in suite r

abbrev pub is_drawn : {A : Type 0} → (A → A → Bool) → A → Option A → Bool
is_drawn same a None = false
is_drawn same a (Some b) = same a b

-- the number of the draw that gave a member identifier, from 1
unfoldable pub mi_number : Suite → Run → Mi → Option ℕ
mi_number suite [] mi = None
mi_number suite (x ∷ r) mi =
    if is_drawn same_mi mi (drawn_mi x.facts) then Some (draws_in suite r + 1)
    else mi_number suite r mi

-- the number of the first draw of those that gave a SAK
unfoldable pub sak_number : Suite → Run → Secret → Option ℕ
sak_number suite [] sak = None
sak_number suite (x ∷ r) sak =
    if is_drawn same_secret sak (sak_of_tick x.facts x.event) then Some (draws_in suite r + 1)
    else sak_number suite r sak

-- the draw that gave before what a happening drew
abbrev pub drawn_before : Suite → Run → Happening → Option ℕ
drawn_before suite r x =
    option_or (option_and_then (mi_number suite r) (drawn_mi x.facts))
    (option_and_then (sak_number suite r) (sak_of_tick x.facts x.event))

-- ---- limits

-- some station installed more keys than it may
abbrev pub is_over_installs : Run → Bool
is_over_installs r =
    list_any (λ i. nat_lt most_installs (length (installs_at i.station r))) (installs r)

-- the first limit in the order of the table that a run passes
abbrev pub passed : Run → Option Which
passed r =
    if nat_lt most_frames (length (air r)) then Some Frames
    else if nat_lt most_octets (sum (map (λ frame. length frame.octets) (air r))) then Some Octets
    else if nat_lt most_ticks (ticks r) then Some Ticks
    else if is_over_installs r then Some Keys
    else if nat_lt most_stations (length (stations r)) then Some Stations
    else None

-- ---- the first stop

abbrev pub stop_of_draw : Suite → Run → Happening → Option Stop
stop_of_draw suite r x =
    option_map (λ first. RepeatedDraw first (draws_in suite r + 1)) (drawn_before suite r x)

abbrev pub stop_of_forgery : Settings → Run → Event → Option Stop
stop_of_forgery settings r (events.Inject s octets) =
    if is_forged settings r octets then Some (Forged s) else None
stop_of_forgery settings r _ = None

-- the first stop of an event that would show these facts
abbrev pub stop_at : Settings → Run → Event → List Fact → Option Stop
stop_at settings r event facts =
    let x = happened event facts in
    option_or (option_map Limit (passed (x ∷ r)))
    (option_or (stop_of_draw settings.suite r x) (stop_of_forgery settings r event))

-- the first stop of an event, by what the supply gives next
unfoldable pub first_stop : Settings → List UserFrame → Run → Event → (ℕ → Option (List ℕ))
    → Option Stop
first_stop settings users r event nth =
    if is_spent (draws_needed settings r event) nth then Some DrawsSpent
    else option_and_then (stop_at settings r event)
    (expected settings users r event (drawn_from settings.suite nth))
