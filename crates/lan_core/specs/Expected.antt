-- What an event has to show after a run: exactly these facts, in this order.
use Rattle.std.specs.Prelude.{ℕ, ◌+◌, ◌-◌, ◌^◌, ◌==◌, if◌then◌else◌, nat_lt, true, false}
use Rattle.std.specs.Prelude.{List, [], ◌∷◌, ◌++◌, map, length, option_to_list}
use Rattle.std.specs.Prelude.{Option, Some, None, option_map, option_and_then}
use Rattle.lan_base.specs.declared.address.Mi.{Mi}
use Rattle.lan_base.specs.declared.frame.UserFrame.{UserFrame}
use Rattle.lan_base.specs.declared.suite.Suite.{Suite}
use Rattle.aes_block.specs.declared.secret.Secret.{Secret}
use Rattle.gcm_frames.specs.Tags.{is_sec}
use Rattle.rx_slots.specs.Numbers.{answer}
use Rattle.sak_exchange.specs.declared.change.Change.{Change}
use Rattle.sak_exchange.specs.declared.change.Change.TheVariants as changes
use Rattle.sak_exchange.specs.declared.held_key.Key.{Key}
use Rattle.peer_lists.specs.Histories.{clock}
use Rattle.mka_station.specs.declared.reaction.Reaction.{Reaction}
use Rattle.mka_station.specs.Lives.{peers_of}
use Rattle.mka_station.specs.Hearing.{frame_turn}
use Rattle.mka_station.specs.Restart.{ending}
use Rattle.lan_core.specs.declared.event.Event.{Event}
use Rattle.lan_core.specs.declared.event.Event.TheVariants as events
use Rattle.lan_core.specs.declared.fact.Fact.{Fact}
use Rattle.lan_core.specs.declared.fact.Fact.TheVariants as facts
use Rattle.lan_core.specs.declared.fact.Lack.{Lack}
use Rattle.lan_core.specs.declared.fact.Lack.TheVariants.{NoKey, Exhausted}
use Rattle.lan_core.specs.declared.settings.Settings.{Settings}
use Rattle.lan_core.specs.Run.{Run, stations}
use Rattle.lan_core.specs.Ledgers.{next_frame, frame_at}
use Rattle.lan_core.specs.Lives.{Life, life, receiving, turn_at_tick, transmitting_at}
use Rattle.lan_core.specs.Lives.{drawn_mi, sak_in}
use Rattle.mka_station.specs.Standing.{drawn_mi as mi_of_draw}
use Rattle.mka_station.specs.Drawing.{sak_of}
use Rattle.lan_core.specs.Claims.{next, waiting, Waiting, frame_of_claim}

-- ---- what an event drew

-- a member identifier, and a SAK where a key is made
pub record Drawn : Type 0 where
  pub mi : Option Mi
  pub sak : Secret

-- by the facts that it showed
abbrev pub drawn_in : List Fact → Drawn
drawn_in facts = record { mi = drawn_mi facts; sak = sak_in facts }

-- by what a supply gives next, from its place 0 on
abbrev pub drawn_from : Suite → (ℕ → Option (List ℕ)) → Drawn
drawn_from suite nth = record { mi = option_map mi_of_draw (nth 0); sak = sak_of suite nth }

-- ---- a station's reaction as facts

-- one change of its keys
abbrev pub change_fact : ℕ → Change → Fact
change_fact s (changes.Dropped h) = facts.Dropped s h.key.id h.key.an
change_fact s (changes.Retired h) = facts.Retired s h.key.id h.key.an
change_fact s (changes.Began h cause) =
    facts.Began s h.key.id h.key.an h.key.epoch cause
change_fact s (changes.Installed h) =
    facts.Installed s h.key.id h.key.an h.key.epoch h.key.sak
change_fact s (changes.Untaken id why) = facts.Untaken s id why

-- what became of a frame, the server, the keys, and the frame that was sent; the numbers of the
-- two frames are given
abbrev pub reaction_facts : ℕ → ℕ → ℕ → Reaction → List Fact
reaction_facts s heard sent reaction =
    option_to_list (option_map (λ verdict. facts.HeardMka heard s verdict) reaction.heard)
    ++ (option_to_list (option_map (λ server. facts.Server s server) reaction.server)
    ++ (map (change_fact s) reaction.changes
    ++ option_to_list (option_map (λ octets. facts.Framed sent s false octets) reaction.sent)))

-- ---- event by event

-- a tick, given what it drew
abbrev pub tick_facts : Settings → ℕ → Run → ℕ → Secret → Life → List Fact
tick_facts settings s r next sak l =
    facts.Ticked s (clock (peers_of l.member l.past) + 1) next
    ∷ reaction_facts s 0 (next_frame r) (turn_at_tick settings s r l next sak).reaction

-- Octets that reach a station: a protected frame is answered by its receive slots, any other is
-- heard.
abbrev pub reached_facts : Settings → ℕ → Run → ℕ → List ℕ → Life → List Fact
reached_facts settings s r number octets l =
    if is_sec octets
    then facts.Arrived number s
    (answer l.member.setup.sci settings.window (receiving s r) octets) ∷ []
    else reaction_facts s number 0 (frame_turn l.member octets l.past).reaction

-- a new life, and what the end of the one before shows
abbrev pub restart_facts : ℕ → Mi → Life → List Fact
restart_facts s mi l = facts.Life s mi ∷ reaction_facts s 0 0 (ending l.member l.past)

-- the last packet number
abbrev pub last_number : ℕ
last_number = 2 ^ 32 - 1

-- why a claim got no number
abbrev pub lack : Settings → ℕ → Run → Option Key → Lack
lack settings s r None = NoKey
lack settings s r (Some k) =
    if nat_lt last_number (next settings s k.epoch r) then Exhausted k.epoch else NoKey

-- a claim that got a number, under the key that transmits; without one it can get none
abbrev pub number_fact : ℕ → ℕ → Option Key → Fact
number_fact s pn None = facts.Unclaimed s NoKey
number_fact s pn (Some k) = facts.Claimed s k.an k.epoch pn

-- a claim of a packet number, 0 where it got none
abbrev pub claim_fact : Settings → ℕ → Run → ℕ → Option Key → Fact
claim_fact settings s r pn k =
    if pn == 0 then facts.Unclaimed s (lack settings s r k) else number_fact s pn k

-- the emission of a claim's frame
abbrev pub emit_facts : List UserFrame → Run → Waiting → Option (List Fact)
emit_facts users r w =
    option_map (λ octets. facts.Framed (next_frame r) w.station true octets ∷ [])
    (frame_of_claim users r w)

-- What an event has to show after a run, given what it drew.
unfoldable pub expected : Settings → List UserFrame → Run → Event → Drawn → Option (List Fact)
expected settings users r (events.Start name sci priority) drawn =
    option_map (λ mi. facts.Life (length (stations r)) mi ∷ []) drawn.mi
expected settings users r (events.Tick s next) drawn =
    option_map (tick_facts settings s r next drawn.sak) (life settings s r)
expected settings users r (events.Deliver frame s) drawn =
    option_and_then
    (λ f. option_map (reached_facts settings s r frame f.octets) (life settings s r))
    (frame_at r frame)
expected settings users r (events.Restart s) drawn =
    option_and_then (λ mi. option_map (restart_facts s mi) (life settings s r)) drawn.mi
expected settings users r (events.Claim s user pn) drawn =
    option_map (λ l. claim_fact settings s r pn (transmitting_at settings s r) ∷ [])
    (life settings s r)
expected settings users r events.Emit drawn =
    option_and_then (emit_facts users r) (waiting settings r)
expected settings users r (events.Inject s octets) drawn =
    option_map (reached_facts settings s r 0 octets) (life settings s r)
