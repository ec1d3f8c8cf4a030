-- What an event shows of draws, by its kind.
use Rattle.std.proofs.Common.{◌≡◌, ◌⊎◌, inl, inr, ◌∙◌, ◌==◌, ◌<◌, ℕ, Bool, true, false, cond, List, [], ◌∷◌, length}
use Rattle.std.proofs.Common.{Option, Some, None, refl, sym, ap, subst, arith}
use Rattle.std.specs.Prelude.{option_map}
use Rattle.lan_base.specs.declared.frame.UserFrame.{UserFrame}
use Rattle.lan_base.specs.declared.suite.Suite.{Suite}
use Rattle.lan_base.specs.declared.suite.Suite.TheVariants.{GcmAes128, GcmAes256}
use Rattle.lan_base.specs.Suites.{sak_draws}
use Rattle.aes_block.specs.declared.secret.Secret.{Secret}
use Rattle.gcm_frames.specs.Tags.{is_sec}
use Rattle.rx_slots.specs.Numbers.{answer}
use Rattle.sak_exchange.specs.declared.held_key.Key.{Key}
use Rattle.mka_station.specs.Hearing.{frame_turn}
use Rattle.mka_station.specs.Drawing.{makes_next, sak_of}
use Rattle.lan_core.specs.declared.event.Event.{Event}
use Rattle.lan_core.specs.declared.event.Event.TheVariants as events
use Rattle.lan_core.specs.declared.fact.Fact.{Fact}
use Rattle.lan_core.specs.declared.fact.Fact.TheVariants as facts
use Rattle.lan_core.specs.declared.settings.Settings.{Settings}
use Rattle.lan_core.specs.Run.{Run, happened, stations}
use Rattle.lan_core.specs.Ledgers.{next_frame}
use Rattle.lan_core.specs.Lives.{Life, life, receiving, drawn_mi, drawn_sak, turn_at_tick}
use Rattle.lan_core.specs.Lives.{seen_at, transmitting_at}
use Rattle.lan_core.specs.Claims.{waiting, frame_of_claim}
use Rattle.lan_core.specs.Expected.{expected, Drawn, drawn_from, tick_facts, reached_facts, restart_facts}
use Rattle.lan_core.specs.Expected.{reaction_facts, claim_fact, number_fact, lack, emit_facts}
use Rattle.lan_core.specs.Order.{IsWithin}
use Rattle.lan_core.specs.Stops.{draws_at_tick, draws_needed, passed, sak_of_tick}
use Rattle.lan_core.specs.Suited.{mi_by, sak_by}
use Rattle.lan_core.proofs.FramesNumbered.{mapped, chained}
use Rattle.lan_core.proofs.OwnLedgers.{reaction-begins-none}
use Rattle.lan_core.proofs.TickDraws.{tick-draws, tick-same, suite-of}
use Rattle.lan_core.proofs.RestartGoesOn.{restart-passes}

reached-begins : (settings : Settings) (s : ℕ) (r : Run) (number : ℕ) (octets : List ℕ) (l : Life)
    → drawn_mi (reached_facts settings s r number octets l) ≡ None
reached-begins settings s r number octets l = go (is_sec octets)
  where
    go : (b : Bool) → drawn_mi (cond b
        (facts.Arrived number s
        (answer l.member.setup.sci settings.window (receiving s r) octets) ∷ [])
        (reaction_facts s number 0 (frame_turn l.member octets l.past).reaction)) ≡ None
    go true = refl
    go false = reaction-begins-none s number 0 (frame_turn l.member octets l.past).reaction

claim-begins : (settings : Settings) (s : ℕ) (r : Run) (pn : ℕ) (k : Option Key) (b : Bool)
    → drawn_mi (cond b (facts.Unclaimed s (lack settings s r k)) (number_fact s pn k) ∷ []) ≡ None
claim-begins settings s r pn k true = refl
claim-begins settings s r pn None false = refl
claim-begins settings s r pn (Some k) false = refl

pub mi-shown : (settings : Settings) (users : List UserFrame) (r : Run) (event : Event)
    (drawn : Drawn) (shown : List Fact) → expected settings users r event drawn ≡ Some shown
    → drawn_mi shown ≡ mi_by event drawn
unfolding expected
mi-shown settings users r (events.Start name sci priority) drawn shown shows =
    let begins = mapped (λ mi. facts.Life (length (stations r)) mi ∷ []) drawn.mi shown shows in
    ap drawn_mi (sym begins.2) ∙ sym begins.1
mi-shown settings users r (events.Tick s next) drawn shown shows =
    let lives = mapped (tick_facts settings s r next drawn.sak) (life settings s r) shown shows in
    ap drawn_mi (sym lives.2)
    ∙ reaction-begins-none s 0 (next_frame r)
    (turn_at_tick settings s r lives.0 next drawn.sak).reaction
mi-shown settings users r (events.Deliver frame s) drawn shown shows =
    let there =
    chained (λ f. option_map (reached_facts settings s r frame f.octets) (life settings s r)) _
    shown shows in
    let lives = mapped (reached_facts settings s r frame there.0.octets) (life settings s r) shown
    there.2 in
    ap drawn_mi (sym lives.2) ∙ reached-begins settings s r frame there.0.octets lives.0
mi-shown settings users r (events.Restart s) drawn shown shows =
    let begins = chained (λ mi. option_map (restart_facts s mi) (life settings s r)) drawn.mi shown
    shows in
    let lives = mapped (restart_facts s begins.0) (life settings s r) shown begins.2 in
    ap drawn_mi (sym lives.2) ∙ sym begins.1
mi-shown settings users r (events.Claim s user pn) drawn shown shows =
    let k = transmitting_at settings s r in
    let lives = mapped (λ l. claim_fact settings s r pn k ∷ []) (life settings s r) shown shows in
    ap drawn_mi (sym lives.2) ∙ claim-begins settings s r pn k (pn == 0)
mi-shown settings users r events.Emit drawn shown shows =
    let waits = chained (emit_facts users r) (waiting settings r) shown shows in
    let puts = mapped (λ octets. facts.Framed (next_frame r) waits.0.station true octets ∷ [])
    (frame_of_claim users r waits.0) shown waits.2 in
    ap drawn_mi (sym puts.2)
mi-shown settings users r (events.Inject s octets) drawn shown shows =
    let lives = mapped (reached_facts settings s r 0 octets) (life settings s r) shown shows in
    ap drawn_mi (sym lives.2) ∙ reached-begins settings s r 0 octets lives.0

-- ---- keys

-- a key takes a draw at least
makes-or-not : (suite : Suite) (b : Bool) (sak : Secret)
    → cond b (Some sak) None ≡ cond (cond b (sak_draws suite) 0 == 0) None (Some sak)
makes-or-not GcmAes128 true sak = refl
makes-or-not GcmAes256 true sak = refl
makes-or-not suite false sak = refl

pub sak-shown-by : (settings : Settings) (users : List UserFrame) (r : Run) (event : Event)
    (drawn : Drawn) (shown : List Fact) → expected settings users r event drawn ≡ Some shown
    → sak_of_tick shown event
    ≡ cond (draws_needed settings r event == 0) None (sak_by event drawn)
unfolding expected
sak-shown-by settings users r (events.Tick s next) drawn shown shows =
    let lives = mapped (tick_facts settings s r next drawn.sak) (life settings s r) shown shows in
    let l = lives.0 in
    ap drawn_sak (sym lives.2) ∙ tick-draws settings s r next drawn.sak l
    ∙ makes-or-not l.member.setup.suite
    (makes_next l.member l.past (seen_at settings s r l next)) drawn.sak
    ∙ ap (λ o. cond (draws_at_tick settings s r next o == 0) None (Some drawn.sak)) (sym lives.1)
sak-shown-by settings users r (events.Start name sci priority) drawn shown shows = refl
sak-shown-by settings users r (events.Deliver frame s) drawn shown shows = refl
sak-shown-by settings users r (events.Restart s) drawn shown shows = refl
sak-shown-by settings users r (events.Claim s user pn) drawn shown shows = refl
sak-shown-by settings users r events.Emit drawn shown shows = refl
sak-shown-by settings users r (events.Inject s octets) drawn shown shows = refl

-- a tick takes no draw, or those of a key
pub tick-takes : (settings : Settings) (r : Run) (s next : ℕ)
    → (draws_needed settings r (events.Tick s next) ≡ 0)
    ⊎ (draws_needed settings r (events.Tick s next) ≡ sak_draws settings.suite)
tick-takes settings r s next = go (life settings s r) refl
  where
    pick : (b : Bool) (suite : Suite) → suite ≡ settings.suite
        → (cond b (sak_draws suite) 0 ≡ 0) ⊎ (cond b (sak_draws suite) 0 ≡ sak_draws settings.suite)
    pick true suite same = inr (ap sak_draws same)
    pick false suite same = inl refl

    go : (o : Option Life) → life settings s r ≡ o
        → (draws_at_tick settings s r next o ≡ 0)
        ⊎ (draws_at_tick settings s r next o ≡ sak_draws settings.suite)
    go None lives = inl refl
    go (Some l) lives =
        pick (makes_next l.member l.past (seen_at settings s r l next)) l.member.setup.suite
        (suite-of settings s r l lives)

-- ---- a supply

-- draws that agree give one key
one-key : (suite : Suite) (nth other : ℕ → Option (List ℕ))
    → ((place : ℕ) → place < sak_draws suite → nth place ≡ other place)
    → sak_of suite nth ≡ sak_of suite other
one-key GcmAes128 nth other agree = rw (agree 0 (omega arith)) refl
one-key GcmAes256 nth other agree = rw (agree 0 (omega arith), agree 1 (omega arith)) refl

tick-needed : (settings : Settings) (s next : ℕ) (r : Run) (nth other : ℕ → Option (List ℕ))
    (o : Option Life) → life settings s r ≡ o
    → ((place : ℕ) → place < draws_at_tick settings s r next o → nth place ≡ other place)
    → option_map (tick_facts settings s r next (sak_of settings.suite nth)) o
    ≡ option_map (tick_facts settings s r next (sak_of settings.suite other)) o
tick-needed settings s next r nth other None lives agree = refl
tick-needed settings s next r nth other (Some l) lives agree =
    go (makes_next l.member l.past (seen_at settings s r l next)) refl agree
  where
    go : (b : Bool) → makes_next l.member l.past (seen_at settings s r l next) ≡ b
        → ((place : ℕ) → place < cond b (sak_draws l.member.setup.suite) 0
        → nth place ≡ other place)
        → Some (tick_facts settings s r next (sak_of settings.suite nth) l)
        ≡ Some (tick_facts settings s r next (sak_of settings.suite other) l)
    go true makes agree =
        let suite = suite-of settings s r l lives in
        ap (λ sak. Some (tick_facts settings s r next sak l))
        (one-key settings.suite nth other
        (subst (λ suite. (place : ℕ) → place < sak_draws suite → nth place ≡ other place) suite
        agree))
    go false none agree =
        ap Some (tick-same settings s r next (sak_of settings.suite nth)
        (sak_of settings.suite other) l none)

pub needed-draws-count : (settings : Settings) (users : List UserFrame) (r : Run) (event : Event)
    (nth other : ℕ → Option (List ℕ))
    → ((place : ℕ) → place < draws_needed settings r event → nth place ≡ other place)
    → expected settings users r event (drawn_from settings.suite nth)
    ≡ expected settings users r event (drawn_from settings.suite other)
unfolding expected
needed-draws-count settings users r (events.Start name sci priority) nth other agree =
    rw (agree 0 (omega arith)) refl
needed-draws-count settings users r (events.Tick s next) nth other agree =
    tick-needed settings s next r nth other (life settings s r) refl agree
needed-draws-count settings users r (events.Restart s) nth other agree =
    rw (agree 0 (omega arith)) refl
needed-draws-count settings users r (events.Deliver frame s) nth other agree = refl
needed-draws-count settings users r (events.Claim s user pn) nth other agree = refl
needed-draws-count settings users r events.Emit nth other agree = refl
needed-draws-count settings users r (events.Inject s octets) nth other agree = refl

-- ---- limits

pub restart-is-within : (settings : Settings) (users : List UserFrame) (r : Run) (s : ℕ)
    (drawn : Drawn) (shown : List Fact) → IsWithin r
    → expected settings users r (events.Restart s) drawn ≡ Some shown
    → passed (happened (events.Restart s) shown ∷ r) ≡ None
unfolding expected
restart-is-within settings users r s drawn shown within shows =
    let begins = chained (λ mi. option_map (restart_facts s mi) (life settings s r)) drawn.mi shown
    shows in
    let lives = mapped (restart_facts s begins.0) (life settings s r) shown begins.2 in
    restart-passes r within s begins.0 lives.0 shown (sym lives.2)
