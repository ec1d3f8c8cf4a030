-- What the first fact of an event is: that of a claim tells of a claim, that of another tells of
-- none, and needs no excuse.
use Rattle.std.proofs.Common.{◌≡◌, ℕ, Bool, true, false, cond, List, [], ◌∷◌, ◌++◌, length, map}
use Rattle.std.proofs.Common.{Option, Some, None, refl, subst}
use Rattle.std.specs.Prelude.{option_map, option_to_list}
use Rattle.lan_base.specs.declared.address.Mi.{Mi}
use Rattle.lan_base.specs.declared.frame.UserFrame.{UserFrame}
use Rattle.gcm_frames.specs.Tags.{is_sec}
use Rattle.rx_slots.specs.Numbers.{answer}
use Rattle.sak_exchange.specs.declared.change.Change.{Change}
use Rattle.sak_exchange.specs.declared.change.Change.TheVariants as changes
use Rattle.mka_station.specs.declared.reaction.Reaction.{Reaction}
use Rattle.mka_station.specs.declared.verdict.Verdict.{Verdict}
use Rattle.mka_station.specs.Hearing.{frame_turn}
use Rattle.lan_core.specs.declared.event.Event.{Event}
use Rattle.lan_core.specs.declared.event.Event.TheVariants as events
use Rattle.lan_core.specs.declared.fact.Fact.{Fact}
use Rattle.lan_core.specs.declared.fact.Fact.TheVariants as facts
use Rattle.lan_core.specs.declared.settings.Settings.{Settings}
use Rattle.lan_core.specs.Run.{Run, stations}
use Rattle.lan_core.specs.Ledgers.{next_frame, frame_at}
use Rattle.lan_core.specs.Lives.{Life, life, receiving, transmitting_at, drawn_mi}
use Rattle.lan_core.specs.Claims.{waiting, frame_of_claim}
use Rattle.lan_core.specs.Expected.{expected, drawn_in, tick_facts, reached_facts, restart_facts}
use Rattle.lan_core.specs.Expected.{reaction_facts, change_fact, claim_fact, emit_facts}
use Rattle.lan_core.specs.Legal.{Ahead, is_excused_by}
use Rattle.lan_core.proofs.FramesNumbered.{mapped, chained}

-- ---- the first fact of an event

-- facts whose first one tells of no claim
abbrev pub AreOther : List Fact → Type 0
AreOther [] = Unit {0}
AreOther (facts.Claimed s an epoch pn ∷ later) = ⊥
AreOther (facts.Unclaimed s why ∷ later) = ⊥
AreOther (fact ∷ later) = Unit {0}

by_sent : (s sent : ℕ) (o : Option (List ℕ))
    → AreOther (option_to_list (option_map (λ octets. facts.Framed sent s false octets) o))
by_sent s sent None = tt
by_sent s sent (Some octets) = tt

by_changes : (s : ℕ) (cs : List Change) (later : List Fact) → AreOther later
    → AreOther (map (change_fact s) cs ++ later)
by_changes s [] later are = are
by_changes s (changes.Dropped k ∷ cs) later are = tt
by_changes s (changes.Retired k ∷ cs) later are = tt
by_changes s (changes.Began k cause ∷ cs) later are = tt
by_changes s (changes.Installed k ∷ cs) later are = tt
by_changes s (changes.Untaken id why ∷ cs) later are = tt

by_server : (s : ℕ) (server : Option (Option Mi)) (later : List Fact) → AreOther later
    → AreOther (option_to_list (option_map (λ m. facts.Server s m) server) ++ later)
by_server s None later are = are
by_server s (Some server) later are = tt

by_verdict : (s heard : ℕ) (v : Option Verdict) (later : List Fact) → AreOther later
    → AreOther (option_to_list (option_map (λ v. facts.HeardMka heard s v) v) ++ later)
by_verdict s heard None later are = are
by_verdict s heard (Some v) later are = tt

reaction_other : (s heard sent : ℕ) (reaction : Reaction)
    → AreOther (reaction_facts s heard sent reaction)
reaction_other s heard sent reaction =
    by_verdict s heard reaction.heard _
    (by_server s reaction.server _ (by_changes s reaction.changes _ (by_sent s sent reaction.sent)))

reached_other : (settings : Settings) (s : ℕ) (r : Run) (number : ℕ) (octets : List ℕ) (l : Life)
    → AreOther (reached_facts settings s r number octets l)
reached_other settings s r number octets l = go (is_sec octets)
  where
    go : (b : Bool) → AreOther (cond b
        (facts.Arrived number s
        (answer l.member.setup.sci settings.window (receiving s r) octets) ∷ [])
        (reaction_facts s number 0 (frame_turn l.member octets l.past).reaction))
    go true = tt
    go false = reaction_other s number 0 (frame_turn l.member octets l.past).reaction

-- a claim, and what it told; or another event
abbrev pub IsClaim : Settings → Run → List Fact → Event → Type 0
IsClaim settings r shown (events.Claim s user pn) =
    claim_fact settings s r pn (transmitting_at settings s r) ∷ [] ≡ shown
IsClaim settings r shown _ = AreOther shown

pub is-claim : (settings : Settings) (users : List UserFrame) (r : Run) (event : Event)
    (shown : List Fact)
    → expected settings users r event (drawn_in shown) ≡ Some shown → IsClaim settings r shown event
unfolding expected
is-claim settings users r (events.Start name sci priority) shown shows =
    let begins = mapped (λ mi. facts.Life (length (stations r)) mi ∷ []) (drawn_mi shown) shown
    shows in
    subst AreOther begins.2 tt
is-claim settings users r (events.Tick s next) shown shows =
    let lives = mapped (tick_facts settings s r next (drawn_in shown).sak) (life settings s r) shown
    shows in
    subst AreOther lives.2 tt
is-claim settings users r (events.Deliver frame s) shown shows =
    let there =
    chained (λ f. option_map (reached_facts settings s r frame f.octets) (life settings s r))
    (frame_at r frame)
    shown shows in
    let lives = mapped (reached_facts settings s r frame there.0.octets) (life settings s r) shown
    there.2 in
    subst AreOther lives.2 (reached_other settings s r frame there.0.octets lives.0)
is-claim settings users r (events.Restart s) shown shows =
    let begins = chained (λ mi. option_map (restart_facts s mi) (life settings s r))
    (drawn_mi shown) shown shows in
    let lives = mapped (restart_facts s begins.0) (life settings s r) shown begins.2 in
    subst AreOther lives.2 tt
is-claim settings users r (events.Claim s user pn) shown shows =
    (mapped (λ l. claim_fact settings s r pn (transmitting_at settings s r) ∷ [])
    (life settings s r) shown shows).2
is-claim settings users r events.Emit shown shows =
    let waits = chained (emit_facts users r) (waiting settings r) shown shows in
    let puts = mapped (λ octets. facts.Framed (next_frame r) waits.0.station true octets ∷ [])
    (frame_of_claim users r waits.0)
    shown waits.2 in
    subst AreOther puts.2 tt
is-claim settings users r (events.Inject s octets) shown shows =
    let lives = mapped (reached_facts settings s r 0 octets) (life settings s r) shown shows in
    subst AreOther lives.2 (reached_other settings s r 0 octets lives.0)

-- ---- what needs no excuse

pub excused-other : (settings : Settings) (r : Run) (ahead : Ahead) (shown : List Fact)
    → AreOther shown → is_excused_by settings r ahead shown ≡ true
excused-other settings r ahead [] are = refl
excused-other settings r ahead (facts.Claimed s an epoch pn ∷ later) are = elim are [ ]
excused-other settings r ahead (facts.Unclaimed s why ∷ later) are = elim are [ ]
excused-other settings r ahead (_ ∷ later) are = refl
