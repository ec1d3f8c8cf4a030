-- The facts of a run are facts under the names of its stations, and are cut into its events.
use Rattle.std.proofs.Common.{◌≡◌, ◌∙◌, ℕ, Bool, true, false, cond, List, [], ◌∷◌, ◌++◌, length, map}
use Rattle.std.proofs.Common.{Option, Some, None, Result, Ok, Err, refl, sym, ap, subst, append_assoc}
use Rattle.std.specs.Prelude.{All, ◌==◌, option_map, option_to_list}
use Rattle.std.specs.List.{flat_map}
use Rattle.std.proofs.lemmas.List.{append-nil}
use Rattle.std.proofs.lemmas.List.Elements.{All-nil, All-cons, All-append, All-push}
use Rattle.aes_block.specs.declared.secret.Secret.{Secret}
use Rattle.gcm_frames.specs.Tags.{is_sec}
use Rattle.lan_base.specs.declared.address.Mi.{Mi}
use Rattle.lan_base.specs.declared.frame.UserFrame.{UserFrame}
use Rattle.rx_slots.specs.Numbers.{answer}
use Rattle.sak_exchange.specs.declared.change.Change.{Change}
use Rattle.sak_exchange.specs.declared.change.Change.TheVariants as changes
use Rattle.sak_exchange.specs.declared.due.Seen.{Seen}
use Rattle.sak_exchange.specs.declared.held_key.Key.{Key}
use Rattle.mka_station.specs.declared.reaction.Reaction.{Reaction}
use Rattle.mka_station.specs.declared.verdict.DropReason.{DropReason}
use Rattle.mka_station.specs.declared.verdict.Verdict.{Verdict}
use Rattle.mka_station.specs.declared.verdict.Verdict.TheVariants as verdicts
use Rattle.mka_station.specs.Hearing.{frame_turn, judged, heard_turn, hear_turn, outcome_of, verdict_of}
use Rattle.mka_station.specs.Lives.{Member, Entry}
use Rattle.mka_station.specs.Restart.{ending}
use Rattle.mka_station.specs.Tick.{tick_turn}
use Rattle.mkpdu_codec.specs.declared.announcement.Announcement.{Announcement}
use Rattle.lan_core.specs.declared.event.Event.{Event}
use Rattle.lan_core.specs.declared.event.Event.TheVariants as events
use Rattle.lan_core.specs.declared.fact.Fact.{Fact}
use Rattle.lan_core.specs.declared.fact.Fact.TheVariants.{Life, Server, Framed, HeardMka, Claimed, Unclaimed, Arrived}
use Rattle.lan_core.specs.declared.fact.Lack.TheVariants.{NoKey}
use Rattle.lan_core.specs.declared.settings.Settings.{Settings}
use Rattle.lan_core.specs.Run.{Run, happened, facts_of, stations}
use Rattle.lan_core.specs.Ledgers.{frame_at, next_frame}
use Rattle.lan_core.specs.Lives.{Life as TheLife, life, drawn_mi, sak_in, seen_at, transmitting_at, receiving}
use Rattle.lan_core.specs.Claims.{waiting, frame_of_claim}
use Rattle.lan_core.specs.Expected.{expected, change_fact, reaction_facts, tick_facts, reached_facts, restart_facts, claim_fact, number_fact, lack, emit_facts}
use Rattle.lan_core.specs.Legal.{IsStep, IsStepped}
use Rattle.lan_core.proofs.Public.{mapped, chained}
use Rattle.transcript.specs.Cut.{is_first, IsEvent, cut}
use Rattle.transcript.specs.Events.{events_of}
use Rattle.transcript.proofs.Cutting.{again}

-- ---- facts of one event

abbrev AreOthers : List Fact → Type 0
AreOthers fs = All (λ fact. is_first fact ≡ false) fs

servers-are : (s : ℕ) (o : Option (Option Mi))
    → AreOthers (option_to_list (option_map (λ server. Server s server) o))
servers-are s None = All-nil (λ fact. is_first fact ≡ false)
servers-are s (Some server) =
    All-cons (λ fact. is_first fact ≡ false) (Server s server) [] refl
    (All-nil (λ fact. is_first fact ≡ false))

changes-are : (s : ℕ) (cs : List Change) → AreOthers (map (change_fact s) cs)
changes-are s [] = All-nil (λ fact. is_first fact ≡ false)
changes-are s (changes.Dropped h ∷ cs) =
    All-cons (λ fact. is_first fact ≡ false) _ (map (change_fact s) cs) refl (changes-are s cs)
changes-are s (changes.Retired h ∷ cs) =
    All-cons (λ fact. is_first fact ≡ false) _ (map (change_fact s) cs) refl (changes-are s cs)
changes-are s (changes.Began h cause ∷ cs) =
    All-cons (λ fact. is_first fact ≡ false) _ (map (change_fact s) cs) refl (changes-are s cs)
changes-are s (changes.Installed h ∷ cs) =
    All-cons (λ fact. is_first fact ≡ false) _ (map (change_fact s) cs) refl (changes-are s cs)
changes-are s (changes.Untaken id why ∷ cs) =
    All-cons (λ fact. is_first fact ≡ false) _ (map (change_fact s) cs) refl (changes-are s cs)

sent-are : (s sent : ℕ) (o : Option (List ℕ))
    → AreOthers (option_to_list (option_map (λ octets. Framed sent s false octets) o))
sent-are s sent None = All-nil (λ fact. is_first fact ≡ false)
sent-are s sent (Some octets) =
    All-cons (λ fact. is_first fact ≡ false) (Framed sent s false octets) [] refl
    (All-nil (λ fact. is_first fact ≡ false))

-- what a reaction shows behind what became of a frame
abbrev behind : ℕ → ℕ → Reaction → List Fact
behind s sent re =
    option_to_list (option_map (λ server. Server s server) re.server)
    ++ (map (change_fact s) re.changes
    ++ option_to_list (option_map (λ octets. Framed sent s false octets) re.sent))

behind-are : (s sent : ℕ) (re : Reaction) → AreOthers (behind s sent re)
behind-are s sent re =
    All-append (λ fact. is_first fact ≡ false)
    (option_to_list (option_map (λ server. Server s server) re.server)) _ (servers-are s re.server)
    (All-append (λ fact. is_first fact ≡ false) (map (change_fact s) re.changes)
    (option_to_list (option_map (λ octets. Framed sent s false octets) re.sent))
    (changes-are s re.changes) (sent-are s sent re.sent))

unheard : (s number sent : ℕ) (re : Reaction) → re.heard ≡ None
    → AreOthers (reaction_facts s number sent re)
unheard s number sent re none =
    subst (λ o. AreOthers (option_to_list (option_map (λ v. HeardMka number s v) o) ++ behind s sent re))
    (sym none) (behind-are s sent re)

heard-event : (s number sent : ℕ) (re : Reaction) (v : Verdict) → re.heard ≡ Some v
    → IsEvent (reaction_facts s number sent re)
heard-event s number sent re v some =
    subst (λ o. IsEvent (option_to_list (option_map (λ v. HeardMka number s v) o) ++ behind s sent re))
    (sym some) (refl, behind-are s sent re)

ticks-unheard : (m : Member) (seen : Seen) (sak : Secret)
    (p : List Entry) → (tick_turn m seen sak p).reaction.heard ≡ None
unfolding tick_turn
ticks-unheard m seen sak p = refl

ends-unheard : (m : Member) (p : List Entry) → (ending m p).heard ≡ None
unfolding ending
ends-unheard m p = refl

frame-heard : (m : Member) (octets : List ℕ) (p : List Entry)
    → (v : Verdict) × ((frame_turn m octets p).reaction.heard ≡ Some v)
unfolding hear_turn
frame-heard m octets p = go (judged m.setup octets)
  where
    go : (j : Result Announcement DropReason)
        → (v : Verdict) × ((heard_turn m j p).reaction.heard ≡ Some v)
    go (Ok a) = (verdict_of (outcome_of m p a), refl)
    go (Err reason) = (verdicts.Dropped reason, refl)

one : (fact : Fact) → is_first fact ≡ true → IsEvent (fact ∷ [])
one fact is = (is, All-nil (λ fact. is_first fact ≡ false))

reached-event : (settings : Settings) (s : ℕ) (r : Run) (number : ℕ) (octets : List ℕ) (l : TheLife)
    → IsEvent (reached_facts settings s r number octets l)
reached-event settings s r number octets l = go (is_sec octets)
  where
    go : (b : Bool) → IsEvent (cond b
        (Arrived number s (answer l.member.setup.sci settings.window (receiving s r) octets) ∷ [])
        (reaction_facts s number 0 (frame_turn l.member octets l.past).reaction))
    go true = one (Arrived number s (answer l.member.setup.sci settings.window (receiving s r) octets)) refl
    go false =
        let h = frame-heard l.member octets l.past in
        heard-event s number 0 (frame_turn l.member octets l.past).reaction h.0 h.1

claim-event : (settings : Settings) (s : ℕ) (r : Run) (pn : ℕ) (k : Option Key)
    → IsEvent (claim_fact settings s r pn k ∷ [])
claim-event settings s r pn k = go (pn == 0) k
  where
    go : (b : Bool) (j : Option Key)
        → IsEvent (cond b (Unclaimed s (lack settings s r k)) (number_fact s pn j) ∷ [])
    go true j = one (Unclaimed s (lack settings s r k)) refl
    go false None = one (Unclaimed s NoKey) refl
    go false (Some j) = one (Claimed s j.an j.epoch pn) refl

event-is : (settings : Settings) (users : List UserFrame) (e : Event) (f : List Fact) (r : Run)
    → IsStep settings users (happened e f) r → IsEvent f
unfolding expected
event-is settings users (events.Start name sci priority) f r step =
    let is = mapped (λ mi. Life (length (stations r)) mi ∷ []) (drawn_mi f) f step.shows in
    subst IsEvent is.2 (one (Life (length (stations r)) is.0) refl)
event-is settings users (events.Tick s next) f r step =
    let is = mapped (tick_facts settings s r next (sak_in f)) (life settings s r) f step.shows in
    let l = is.0 in
    subst IsEvent is.2 (
      refl,
      unheard s 0 (next_frame r)
          (tick_turn l.member (seen_at settings s r l next) (sak_in f) l.past).reaction
          (ticks-unheard l.member (seen_at settings s r l next) (sak_in f) l.past),
    )
event-is settings users (events.Deliver frame s) f r step =
    let there = chained (λ x. option_map (reached_facts settings s r frame x.octets) (life settings s r))
    (frame_at r frame) f step.shows in
    let is = mapped (reached_facts settings s r frame there.0.octets) (life settings s r) f there.2 in
    subst IsEvent is.2 (reached-event settings s r frame there.0.octets is.0)
event-is settings users (events.Restart s) f r step =
    let drew = chained (λ mi. option_map (restart_facts s mi) (life settings s r)) (drawn_mi f) f
    step.shows in
    let is = mapped (restart_facts s drew.0) (life settings s r) f drew.2 in
    subst IsEvent is.2 (
      refl,
      unheard s 0 0 (ending is.0.member is.0.past)
          (ends-unheard is.0.member is.0.past),
    )
event-is settings users (events.Claim s user pn) f r step =
    let is = mapped (λ l. claim_fact settings s r pn (transmitting_at settings s r) ∷ [])
    (life settings s r) f step.shows in
    subst IsEvent is.2 (claim-event settings s r pn (transmitting_at settings s r))
event-is settings users events.Emit f r step =
    let there = chained (emit_facts users r) (waiting settings r) f step.shows in
    let is = mapped (λ octets. Framed (next_frame r) there.0.station true octets ∷ [])
    (frame_of_claim users r there.0) f there.2 in
    subst IsEvent is.2 (one (Framed (next_frame r) there.0.station true is.0) refl)
event-is settings users (events.Inject s octets) f r step =
    let is = mapped (reached_facts settings s r 0 octets) (life settings s r) f step.shows in
    subst IsEvent is.2 (reached-event settings s r 0 octets is.0)

pub are-events : (settings : Settings) (users : List UserFrame) (r : Run)
    → IsStepped settings users r → All IsEvent (events_of r)
are-events settings users [] stepped = All-nil IsEvent
are-events settings users (x ∷ r) (step, before) =
    All-push IsEvent (events_of r) x.facts (are-events settings users r before)
    (event-is settings users x.event x.facts r step)

flat-more : (xs ys : List (List Fact))
    → flat_map (λ event. event) (xs ++ ys)
    ≡ flat_map (λ event. event) xs ++ flat_map (λ event. event) ys
flat-more [] ys = refl
flat-more (x ∷ xs) ys =
    ap (λ fs. x ++ fs) (flat-more xs ys)
    ∙ sym (append_assoc x (flat_map (λ event. event) xs) (flat_map (λ event. event) ys))

whole-run : (r : Run) → flat_map (λ event. event) (events_of r) ≡ facts_of r
whole-run [] = refl
whole-run (x ∷ r) =
    flat-more (events_of r) (x.facts ∷ []) ∙ ap (λ fs. fs ++ (x.facts ++ [])) (whole-run r)
    ∙ ap (λ fs. facts_of r ++ fs) (append-nil x.facts)

pub run-cut : (settings : Settings) (users : List UserFrame) (r : Run)
    → IsStepped settings users r → cut (facts_of r) ≡ events_of r
run-cut settings users r stepped =
    ap cut (sym (whole-run r)) ∙ again (events_of r) (are-events settings users r stepped)
