-- No event of a twin run needs an excuse: a group's run is legal.
use Rattle.std.proofs.Common.{◌≡◌, ◌==◌, ℕ, Bool, true, false, List, [], ◌∷◌, ◌++◌, map}
use Rattle.std.proofs.Common.{length, Option, Some, None, refl, sym, subst}
use Rattle.std.specs.Prelude.{cond, option_map, option_to_list}
use Rattle.lan_base.specs.declared.address.Mi.{Mi}
use Rattle.lan_base.specs.declared.frame.UserFrame.{UserFrame}
use Rattle.gcm_frames.specs.Tags.{is_sec}
use Rattle.rx_slots.specs.Numbers.{answer}
use Rattle.sak_exchange.specs.declared.change.Change.{Change}
use Rattle.sak_exchange.specs.declared.change.Change.TheVariants as changes
use Rattle.sak_exchange.specs.declared.held_key.Key.{Key}
use Rattle.mka_station.specs.declared.reaction.Reaction.{Reaction}
use Rattle.mka_station.specs.declared.verdict.Verdict.{Verdict}
use Rattle.mka_station.specs.Hearing.{frame_turn}
use Rattle.lan_core.specs.declared.event.Event.{Event}
use Rattle.lan_core.specs.declared.event.Event.TheVariants as events
use Rattle.lan_core.specs.declared.fact.Fact.{Fact}
use Rattle.lan_core.specs.declared.fact.Fact.TheVariants as facts
use Rattle.lan_core.specs.declared.settings.Settings.{Settings}
use Rattle.lan_core.specs.Run.{Run, Happening, stations}
use Rattle.lan_core.specs.Ledgers.{next_frame, frame_at}
use Rattle.lan_core.specs.Lives.{Life, life, receiving, transmitting_at}
use Rattle.lan_core.specs.Claims.{next, waiting, frame_of_claim}
use Rattle.lan_core.specs.Expected.{expected, Drawn, reached_facts, restart_facts}
use Rattle.lan_core.specs.Expected.{reaction_facts, change_fact, claim_fact, number_fact, lack}
use Rattle.lan_core.specs.Expected.{emit_facts}
use Rattle.lan_core.proofs.Public.{mapped, chained}
use Rattle.std.proofs.lemmas.Bool.{eqb-true}
use Rattle.std.specs.Prelude.{slice_get, is_some}
use Rattle.lan_core.specs.Run.{Profile}
use Rattle.lan_core.specs.Expected.{drawn_in}
use Rattle.lan_core.specs.Legal.{IsStep, IsLegal, is_excused_by, none_ahead}
use Rattle.lan_core.specs.Expected.{tick_facts}
use Rattle.cak_roll.specs.declared.event.GroupNumber.{GroupNumber}
use Rattle.cak_roll.specs.declared.event.GroupNumber.TheVariants.{First, Second}
use Rattle.cak_roll.specs.declared.event.TwinEvent.{TwinEvent}
use Rattle.cak_roll.specs.declared.event.TwinEvent.TheVariants as twins
use Rattle.cak_roll.specs.Twin.{Pair, of_group, same_group, setting_of, Twin, part_of, run_of}
use Rattle.cak_roll.specs.Twin.{AreSteps, events_of, events_in, start_of, sent_as, only}
use Rattle.cak_roll.specs.Twin.{IsTwinRun, place_in, next_in, claimed_in}
use Rattle.cak_roll.specs.Twin.{takes_part, carrier}
use Rattle.cak_roll.proofs.Sends.{silent-key}

abbrev NeedsNone : Settings → Run → List Fact → Type 0
NeedsNone settings r shown = is_excused_by settings r none_ahead shown ≡ true

by_sent : (settings : Settings) (r : Run) (t sent : ℕ) (o : Option (List ℕ))
    → NeedsNone settings r (option_to_list (option_map (λ octets. facts.Framed sent t false octets) o))
by_sent settings r t sent None = refl
by_sent settings r t sent (Some octets) = refl

by_changes : (settings : Settings) (r : Run) (t : ℕ) (cs : List Change) (later : List Fact)
    → NeedsNone settings r later → NeedsNone settings r (map (change_fact t) cs ++ later)
by_changes settings r t [] later none = none
by_changes settings r t (changes.Dropped k ∷ cs) later none = refl
by_changes settings r t (changes.Retired k ∷ cs) later none = refl
by_changes settings r t (changes.Began k cause ∷ cs) later none = refl
by_changes settings r t (changes.Installed k ∷ cs) later none = refl
by_changes settings r t (changes.Untaken id why ∷ cs) later none = refl

by_server : (settings : Settings) (r : Run) (t : ℕ) (server : Option (Option Mi))
    (later : List Fact) → NeedsNone settings r later
    → NeedsNone settings r (option_to_list (option_map (λ m. facts.Server t m) server) ++ later)
by_server settings r t None later none = none
by_server settings r t (Some server) later none = refl

by_verdict : (settings : Settings) (r : Run) (t heard : ℕ) (v : Option Verdict)
    (later : List Fact) → NeedsNone settings r later
    → NeedsNone settings r (option_to_list (option_map (λ v. facts.HeardMka heard t v) v) ++ later)
by_verdict settings r t heard None later none = none
by_verdict settings r t heard (Some v) later none = refl

reaction-needs : (settings : Settings) (r : Run) (t heard sent : ℕ) (reaction : Reaction)
    → NeedsNone settings r (reaction_facts t heard sent reaction)
reaction-needs settings r t heard sent reaction =
    by_verdict settings r t heard reaction.heard _
    (by_server settings r t reaction.server _
    (by_changes settings r t reaction.changes _ (by_sent settings r t sent reaction.sent)))

reached-needs : (settings : Settings) (t : ℕ) (r : Run) (number : ℕ) (octets : List ℕ) (l : Life)
    → NeedsNone settings r (reached_facts settings t r number octets l)
reached-needs settings t r number octets l = by (is_sec octets) where
  by : (b : Bool) → NeedsNone settings r (cond b
      (facts.Arrived number t
      (answer l.member.setup.sci settings.window (receiving t r) octets) ∷ [])
      (reaction_facts t number 0 (frame_turn l.member octets l.past).reaction))
  by true = refl
  by false = reaction-needs settings r t number 0 (frame_turn l.member octets l.past).reaction

-- a claim that got no number comes where no key transmits
abbrev IsFine : Settings → Run → Event → Type 0
IsFine settings r (events.Claim s user pn) =
    pn ≡ 0 → is_some (transmitting_at settings s r) ≡ false
IsFine settings r _ = Unit {0}

claim-needs : (settings : Settings) (r : Run) (t pn : ℕ) (k : Option Key) (b : Bool)
    → transmitting_at settings t r ≡ k → (pn == 0) ≡ b
    → (pn ≡ 0 → is_some k ≡ false)
    → NeedsNone settings r
    (cond b (facts.Unclaimed t (lack settings t r k)) (number_fact t pn k) ∷ [])
claim-needs settings r t pn None true e is fine = rw e refl
claim-needs settings r t pn None false e is fine = rw e refl
claim-needs settings r t pn (Some k) true e is fine =
    absurd (let f = fine (eqb-true pn 0 is) in cc (f))
claim-needs settings r t pn (Some k) false e is fine = refl

event-needs : (settings : Settings) (users : List UserFrame) (r : Run) (event : Event)
    (drawn : Drawn) (shown : List Fact) → IsFine settings r event
    → expected settings users r event drawn ≡ Some shown → NeedsNone settings r shown
unfolding expected
event-needs settings users r (events.Start name sci priority) drawn shown fine is =
    let begins = mapped (λ mi. facts.Life (length (stations r)) mi ∷ []) drawn.mi shown is in
    subst (NeedsNone settings r) begins.2 refl
event-needs settings users r (events.Tick t next) drawn shown fine is =
    let lives = mapped (tick_facts settings t r next drawn.sak) (life settings t r) shown is in
    subst (NeedsNone settings r) lives.2 refl
event-needs settings users r (events.Deliver frame t) drawn shown fine is =
    let there = chained
    (λ f. option_map (reached_facts settings t r frame f.octets) (life settings t r))
    (frame_at r frame) shown is in
    let lives = mapped (reached_facts settings t r frame there.0.octets) (life settings t r) shown
    there.2 in
    subst (NeedsNone settings r) lives.2
    (reached-needs settings t r frame there.0.octets lives.0)
event-needs settings users r (events.Restart t) drawn shown fine is =
    let begins = chained (λ mi. option_map (restart_facts t mi) (life settings t r)) drawn.mi shown
    is in
    let lives = mapped (restart_facts t begins.0) (life settings t r) shown begins.2 in
    subst (NeedsNone settings r) lives.2 refl
event-needs settings users r (events.Claim t user pn) drawn shown fine is =
    let k = transmitting_at settings t r in
    let lives = mapped (λ l. claim_fact settings t r pn k ∷ []) (life settings t r) shown is in
    subst (NeedsNone settings r) lives.2 (claim-needs settings r t pn k (pn == 0) refl refl fine)
event-needs settings users r events.Emit drawn shown fine is =
    let waits = chained (emit_facts users r) (waiting settings r) shown is in
    let puts = mapped (λ octets. facts.Framed (next_frame r) waits.0.station true octets ∷ [])
    (frame_of_claim users r waits.0) shown waits.2 in
    subst (NeedsNone settings r) puts.2 refl
event-needs settings users r (events.Inject t octets) drawn shown fine is =
    let lives = mapped (reached_facts settings t r 0 octets) (life settings t r) shown is in
    subst (NeedsNone settings r) lives.2 (reached-needs settings t r 0 octets lives.0)

-- ---- parts

abbrev IsNoClaim : Event → Type 0
IsNoClaim (events.Claim s user pn) = ⊥
IsNoClaim _ = Unit {0}

fine-of : (settings : Settings) (r : Run) (e : Event) → IsNoClaim e → IsFine settings r e
fine-of settings r (events.Start name sci priority) n = tt
fine-of settings r (events.Tick s next) n = tt
fine-of settings r (events.Deliver frame s) n = tt
fine-of settings r (events.Restart s) n = tt
fine-of settings r (events.Claim s user pn) n = absurd n
fine-of settings r events.Emit n = tt
fine-of settings r (events.Inject s octets) n = tt

-- the oldest of these may be a claim, and is fine after the run
abbrev AreFine : Settings → Run → List Event → Type 0
AreFine settings r [] = Unit {0}
AreFine settings r (e ∷ []) = IsFine settings r e
AreFine settings r (e ∷ d ∷ es) = IsNoClaim e × AreFine settings r (d ∷ es)

-- one step more that needs no excuse keeps a run legal
abbrev pub KeepsLegal : Type 0
KeepsLegal = (settings : Settings) (users : List UserFrame) (x : Happening) (r : Run)
    → IsLegal settings users r → IsStep settings users x r
    → is_excused_by settings r none_ahead x.facts ≡ true → IsLegal settings users (x ∷ r)

legal-part : KeepsLegal → (settings : Settings) (users : List UserFrame) (ys r : Run)
    → AreSteps settings users ys r → AreFine settings r (events_of ys) → IsLegal settings users r
    → IsLegal settings users (ys ++ r)
legal-part keeps settings users [] r steps fine legal = legal
legal-part keeps settings users (y ∷ []) r (s, later) fine legal =
    keeps settings users y r legal s
    (event-needs settings users r y.event (drawn_in y.facts) y.facts fine s.shows)
legal-part keeps settings users (y ∷ z ∷ ys) r (s, later) (n, fine) legal =
    let front = (z ∷ ys) ++ r in
    keeps settings users y front (legal-part keeps settings users (z ∷ ys) r later fine legal) s
    (event-needs settings users front y.event (drawn_in y.facts) y.facts
    (fine-of settings front y.event n) s.shows)

fine-only : (settings : Settings) (r : Run) (b : Bool) (e : Event) → IsFine settings r e
    → AreFine settings r (only b (e ∷ []))
fine-only settings r true e f = f
fine-only settings r false e f = tt

fine-start : (settings : Settings) (r : Run) (o : Option Profile)
    → AreFine settings r (option_to_list (option_map start_of o))
fine-start settings r None = tt
fine-start settings r (Some p) = tt

fine-of_group : (settings : Settings) (r : Run) (g : GroupNumber) (es fs : List Event)
    → AreFine settings r es → AreFine settings r fs → AreFine settings r (of_group g es fs)
fine-of_group settings r First es fs h k = h
fine-of_group settings r Second es fs h k = k

fine-cond : (settings : Settings) (r : Run) (b : Bool) (es fs : List Event)
    → AreFine settings r es → AreFine settings r fs → AreFine settings r (cond b es fs)
fine-cond settings r true es fs h k = h
fine-cond settings r false es fs h k = k

fine-in : (pair : Pair) (users : List UserFrame) (t : Twin) (g : GroupNumber) (e : TwinEvent)
    → IsTwinRun pair users t
    → AreFine (setting_of pair g) (run_of g t) (events_in pair g t e)
fine-in pair users t g (twins.Start name sci priority) run =
    fine-of_group (setting_of pair g) (run_of g t) g (events.Start name sci priority ∷ []) []
    tt tt
fine-in pair users t g (twins.Adopt station) run =
    fine-of_group (setting_of pair g) (run_of g t) g []
    (option_to_list (option_map start_of (slice_get (stations (run_of First t)) station))) tt
    (fine-start (setting_of pair g) (run_of g t) (slice_get (stations (run_of First t)) station))
fine-in pair users t g (twins.Leave station group) run = tt
fine-in pair users t g (twins.Tick station group) run =
    fine-only (setting_of pair g) (run_of g t) (same_group group g)
    (events.Tick (place_in g station t) (next_in pair g station t)) tt
fine-in pair users t g (twins.Deliver group frame station) run =
    fine-only (setting_of pair g) (run_of g t) (same_group group g)
    (events.Deliver frame (place_in g station t)) tt
fine-in pair users t g (twins.Restart station) run =
    fine-only (setting_of pair g) (run_of g t) (takes_part g station t)
    (events.Restart (place_in g station t)) tt
fine-in pair users t g (twins.Send station user) run =
    let settings = setting_of pair g in
    let r = run_of g t in
    let place = place_in g station t in
    let pn = claimed_in pair g station t in
    let fine : IsFine settings r (events.Claim place user pn) =
    λ none. silent-key pair users t g station run none in
    fine-cond settings r (same_group (carrier pair station t) g) (sent_as place user pn) []
    (fine-cond settings r (pn == 0) (events.Claim place user pn ∷ [])
    (events.Emit ∷ events.Claim place user pn ∷ []) fine (tt, fine)) tt

pub twin-legal : KeepsLegal → (pair : Pair) (users : List UserFrame) (t : Twin) (g : GroupNumber)
    → IsTwinRun pair users t → IsLegal (setting_of pair g) users (run_of g t)
unfolding run_of
twin-legal keeps pair users [] g run = record { stepped = tt; excused = tt }
twin-legal keeps pair users (x ∷ t) g (step, before) =
    let p = step.parts g in
    legal-part keeps (setting_of pair g) users (part_of g x) (run_of g t) p.steps
    (subst (AreFine (setting_of pair g) (run_of g t)) (sym p.events)
    (fine-in pair users t g x.event before)) (twin-legal keeps pair users t g before)
