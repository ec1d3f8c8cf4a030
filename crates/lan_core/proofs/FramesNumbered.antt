-- Frames are numbered in the order in which they are put on the air.
use Rattle.std.proofs.Common.{◌≡◌, ◌+◌, ℕ, Bool, true, false, cond, List, [], ◌∷◌, length}
use Rattle.std.proofs.Common.{◌≤◌, ◌↔◌, is_some, IsTrue, arith}
use Rattle.std.proofs.lemmas.Bool.{eqb-true, eqb-false}
use Rattle.std.specs.List.{find}
use Rattle.std.proofs.Common.{Option, Some, None, Result, Ok, Err, refl, subst}
use Rattle.std.specs.Prelude.{option_map, option_and_then, option_to_list}
use Rattle.lan_base.specs.declared.frame.UserFrame.{UserFrame}
use Rattle.gcm_frames.specs.Tags.{is_sec}
use Rattle.mkpdu_codec.specs.declared.announcement.Announcement.{Announcement}
use Rattle.rx_slots.specs.Numbers.{answer}
use Rattle.mka_station.specs.declared.reaction.Reaction.{Reaction}
use Rattle.mka_station.specs.declared.verdict.DropReason.{DropReason}
use Rattle.mka_station.specs.Lives.{Member, Entry}
use Rattle.mka_station.specs.Hearing.{judged, hear_turn, heard_turn, frame_turn}
use Rattle.mka_station.specs.Restart.{ending}
use Rattle.lan_core.specs.declared.event.Event.{Event}
use Rattle.lan_core.specs.declared.event.Event.TheVariants as events
use Rattle.lan_core.specs.declared.fact.Fact.{Fact}
use Rattle.lan_core.specs.declared.fact.Fact.TheVariants as facts
use Rattle.lan_core.specs.declared.settings.Settings.{Settings}
use Rattle.lan_core.specs.Run.{Run, stations}
use Rattle.lan_core.specs.Ledgers.{Frame, framed, gather, air, next_frame, frame_at, AreNumbered}
use Rattle.lan_core.specs.Lives.{Life, life, receiving, turn_at_tick, transmitting_at}
use Rattle.lan_core.specs.Claims.{waiting, frame_of_claim}
use Rattle.lan_core.specs.Expected.{reaction_facts, tick_facts, reached_facts, restart_facts}
use Rattle.lan_core.specs.Expected.{claim_fact, number_fact, lack, emit_facts, expected, drawn_in, Drawn}
use Rattle.lan_core.specs.Legal.{IsStepped}
use Rattle.sak_exchange.specs.declared.held_key.Key.{Key}
use Rattle.std.specs.Prelude.{◌==◌}
use Rattle.lan_core.proofs.Reactions.{reaction-air}

-- ---- options

pub mapped : {A B : Type 0} (f : A → B) (o : Option A) (b : B) → option_map f o ≡ Some b
    → (a : A) × (o ≡ Some a) × (f a ≡ b)
mapped f None b is = absurd (cc is)
mapped f (Some a) b is = (a, refl, cc is)

pub chained : {A B : Type 0} (f : A → Option B) (o : Option A) (b : B) → option_and_then f o ≡ Some b
    → (a : A) × (o ≡ Some a) × (f a ≡ Some b)
chained f None b is = absurd (cc is)
chained f (Some a) b is = (a, refl, is)

-- ---- events

-- facts after which the air is numbered, where it was before
abbrev Numbers : List Frame → List Fact → Type 0
Numbers fs shown = AreNumbered fs → AreNumbered (gather framed shown fs)

by_sent : (s sent : ℕ) (o : Option (List ℕ)) (fs : List Frame)
    → ((octets : List ℕ) → o ≡ Some octets → sent ≡ length fs + 1)
    → Numbers fs (option_to_list (option_map (λ octets. facts.Framed sent s false octets) o))
by_sent s sent None fs next are = are
by_sent s sent (Some octets) fs next are = (next octets refl, are)

by_reaction : (s heard sent : ℕ) (reaction : Reaction) (fs : List Frame)
    → ((octets : List ℕ) → reaction.sent ≡ Some octets → sent ≡ length fs + 1)
    → Numbers fs (reaction_facts s heard sent reaction)
by_reaction s heard sent reaction fs next are =
    rw (reaction-air s heard sent reaction fs) (by_sent s sent reaction.sent fs next are)

hears_silently : (m : Member) (judgement : Result Announcement DropReason) (p : List Entry)
    (octets : List ℕ) → (heard_turn m judgement p).reaction.sent ≡ Some octets → ⊥
unfolding hear_turn
hears_silently m (Ok a) p octets is = cc is
hears_silently m (Err v) p octets is = cc is

ends_silently : (m : Member) (p : List Entry) (octets : List ℕ)
    → (ending m p).sent ≡ Some octets → ⊥
unfolding ending
ends_silently m p octets is = cc is

by_reached : (settings : Settings) (s : ℕ) (r : Run) (number : ℕ) (octets : List ℕ) (l : Life)
    (fs : List Frame) → Numbers fs (reached_facts settings s r number octets l)
by_reached settings s r number octets l fs are = go (is_sec octets)
  where
    go : (b : Bool) → AreNumbered (gather framed (cond b
        (facts.Arrived number s
        (answer l.member.setup.sci settings.window (receiving s r) octets) ∷ [])
        (reaction_facts s number 0 (frame_turn l.member octets l.past).reaction)) fs)
    go true = are
    go false = by_reaction s number 0 (frame_turn l.member octets l.past).reaction fs
        (λ sent is.
        absurd (hears_silently l.member (judged l.member.setup octets) l.past sent is)) are

by_number : (s pn : ℕ) (k : Option Key) (fs : List Frame) → Numbers fs (number_fact s pn k ∷ [])
by_number s pn None fs are = are
by_number s pn (Some k) fs are = are

by_claim : (settings : Settings) (s : ℕ) (r : Run) (pn : ℕ) (k : Option Key) (fs : List Frame)
    → Numbers fs (claim_fact settings s r pn k ∷ [])
by_claim settings s r pn k fs are = go (pn == 0)
  where
    go : (b : Bool)
        → AreNumbered (gather framed
        (cond b (facts.Unclaimed s (lack settings s r k)) (number_fact s pn k) ∷ []) fs)
    go true = are
    go false = by_number s pn k fs are

pub by_event : (settings : Settings) (users : List UserFrame) (r : Run) (e : Event) (drawn : Drawn)
    (shown : List Fact) → expected settings users r e drawn ≡ Some shown → Numbers (air r) shown
unfolding expected
by_event settings users r (events.Start name sci priority) drawn shown is are =
    let found = mapped (λ mi. facts.Life (length (stations r)) mi ∷ []) drawn.mi shown is in
    subst (λ shown. AreNumbered (gather framed shown (air r))) found.2 are
by_event settings users r (events.Tick s next) drawn shown is are =
    let found = mapped (tick_facts settings s r next drawn.sak) (life settings s r) shown is in
    let turn = turn_at_tick settings s r found.0 next drawn.sak in
    subst (λ shown. AreNumbered (gather framed shown (air r))) found.2
    (by_reaction s 0 (next_frame r) turn.reaction (air r) (λ octets sent. refl) are)
by_event settings users r (events.Deliver frame s) drawn shown is are =
    let at = chained
    (λ f. option_map (reached_facts settings s r frame f.octets) (life settings s r))
    (frame_at r frame) shown is in
    let found =
    mapped (reached_facts settings s r frame at.0.octets) (life settings s r) shown at.2 in
    subst (λ shown. AreNumbered (gather framed shown (air r))) found.2
    (by_reached settings s r frame at.0.octets found.0 (air r) are)
by_event settings users r (events.Restart s) drawn shown is are =
    let mi =
    chained (λ mi. option_map (restart_facts s mi) (life settings s r)) drawn.mi shown is in
    let found = mapped (restart_facts s mi.0) (life settings s r) shown mi.2 in
    let l = found.0 in
    subst (λ shown. AreNumbered (gather framed shown (air r))) found.2
    (by_reaction s 0 0 (ending l.member l.past) (air r)
    (λ octets sent. absurd (ends_silently l.member l.past octets sent)) are)
by_event settings users r (events.Claim s user pn) drawn shown is are =
    let found =
    mapped (λ l. claim_fact settings s r pn (transmitting_at settings s r) ∷ [])
    (life settings s r) shown is in
    subst (λ shown. AreNumbered (gather framed shown (air r))) found.2
    (by_claim settings s r pn (transmitting_at settings s r) (air r) are)
by_event settings users r events.Emit drawn shown is are =
    let w = chained (emit_facts users r) (waiting settings r) shown is in
    let found =
    mapped (λ octets. facts.Framed (next_frame r) w.0.station true octets ∷ [])
    (frame_of_claim users r w.0) shown w.2 in
    subst (λ shown. AreNumbered (gather framed shown (air r))) found.2 (refl, are)
by_event settings users r (events.Inject s octets) drawn shown is are =
    let found = mapped (reached_facts settings s r 0 octets) (life settings s r) shown is in
    subst (λ shown. AreNumbered (gather framed shown (air r))) found.2
    (by_reached settings s r 0 octets found.0 (air r) are)

pub air-numbered : (settings : Settings) (users : List UserFrame) (r : Run)
    → IsStepped settings users r → AreNumbered (air r)
unfolding air
air-numbered settings users [] stepped = tt
air-numbered settings users (x ∷ r) (step, before) =
    by_event settings users r x.event (drawn_in x.facts) x.facts step.shows (air-numbered settings users r before)

-- ---- frames by their numbers

has_frame : (number : ℕ) (fs : List Frame) → AreNumbered fs → 1 ≤ number → number ≤ length fs
    → is_some (find (λ frame. frame.number == number) fs) ≡ true
has_frame number [] are least most = absurd (omega arith)
has_frame number (frame ∷ fs) (is, are) least most =
    go (frame.number == number) refl (λ fewer. has_frame number fs are least fewer)
  where
    go : (b : Bool) → (frame.number == number) ≡ b
        → (number ≤ length fs → is_some (find (λ frame. frame.number == number) fs) ≡ true)
        → is_some (cond b (Some frame) (find (λ frame. frame.number == number) fs)) ≡ true
    go true same before = refl
    go false differs before =
        let other = eqb-false frame.number number differs in before (omega arith)

is_numbered : (number : ℕ) (fs : List Frame) → AreNumbered fs
    → is_some (find (λ frame. frame.number == number) fs) ≡ true
    → (1 ≤ number) × (number ≤ length fs)
is_numbered number [] are found = absurd (cc found)
is_numbered number (frame ∷ fs) (is, are) found =
    go (frame.number == number) refl (λ earlier. is_numbered number fs are earlier) found
  where
    go : (b : Bool) → (frame.number == number) ≡ b
        → (is_some (find (λ frame. frame.number == number) fs) ≡ true
        → (1 ≤ number) × (number ≤ length fs))
        → is_some (cond b (Some frame) (find (λ frame. frame.number == number) fs)) ≡ true
        → (1 ≤ number) × (number ≤ length (frame ∷ fs))
    go true same before found =
        let equal = eqb-true frame.number number same in (omega arith, omega arith)
    go false differs before found = let within = before found in (within.0, omega arith)

pub number-frame : (settings : Settings) (users : List UserFrame) (r : Run) (number : ℕ)
    → IsStepped settings users r
    → IsTrue (is_some (frame_at r number)) ↔ (1 ≤ number) × (number ≤ length (air r))
number-frame settings users r number stepped =
    let are = air-numbered settings users r stepped in (
      is_numbered number (air r) are,
      λ within. has_frame number (air r) are within.0 within.1,
    )
