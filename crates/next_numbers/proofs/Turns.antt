-- Each claim that waits has its frame, and no more are emitted than there are.
use Rattle.std.proofs.Common.{◌≡◌, ◌<◌, ◌≤◌, ◌+◌, ◌==◌, ℕ, zero, suc, Bool, true, false, List, []}
use Rattle.std.proofs.Common.{◌∷◌, ◌++◌, length, length-append, Option, Some, None, ◌⊎◌, refl, ap}
use Rattle.std.proofs.Common.{◌∙◌, subst, arith}
use Rattle.std.specs.Prelude.{cond, is_some, option_map, option_and_then, option_to_list, slice_get}
use Rattle.std.specs.List.{filter}
use Rattle.lan_base.specs.declared.frame.UserFrame.{UserFrame}
use Rattle.gcm_frames.specs.Tags.{is_sec}
use Rattle.rx_slots.specs.Numbers.{answer}
use Rattle.sak_exchange.specs.declared.held_key.Key.{Key}
use Rattle.mka_station.specs.declared.reaction.Reaction.{Reaction}
use Rattle.mka_station.specs.Hearing.{frame_turn}
use Rattle.mka_station.specs.Restart.{ending}
use Rattle.lan_core.specs.declared.event.Event.{Event}
use Rattle.lan_core.specs.declared.event.Event.TheVariants as events
use Rattle.lan_core.specs.declared.fact.Fact.{Fact}
use Rattle.lan_core.specs.declared.fact.Fact.TheVariants as facts
use Rattle.lan_core.specs.declared.settings.Settings.{Settings}
use Rattle.lan_core.specs.Run.{Run, Profile, Happening, started, stations}
use Rattle.lan_core.specs.Ledgers.{Frame, air, emitted, framed, gather, next_frame, frame_at}
use Rattle.lan_core.specs.Lives.{Life, life, receiving, turn_at_tick, transmitting_at}
use Rattle.lan_core.specs.Claims.{Waiting, waiting, waiting_under, claimed, claimed_by, user_at}
use Rattle.lan_core.specs.Claims.{frame_by, frame_of_claim}
use Rattle.lan_core.specs.Expected.{expected, Drawn, drawn_in, tick_facts, reached_facts}
use Rattle.lan_core.specs.Expected.{reaction_facts, restart_facts, claim_fact, number_fact, lack}
use Rattle.lan_core.specs.Expected.{emit_facts}
use Rattle.lan_core.specs.Order.{Exists, IsAllowed, IsSendable}
use Rattle.lan_core.specs.Legal.{IsStep, IsStepped}
use Rattle.lan_core.proofs.Public.{mapped, chained, reaction-air}

-- ---- claims that wait

abbrev AllHave : {A : Type 0} → (A → Type 0) → List A → Type 0
AllHave P [] = Unit {0}
AllHave P (x ∷ xs) = P x × AllHave P xs

all-more : {A : Type 0} (P Q : A → Type 0) (xs : List A) → ((x : A) → P x → Q x) → AllHave P xs
    → AllHave Q xs
all-more P Q [] h all = tt
all-more P Q (x ∷ xs) h all = (h x all.0, all-more P Q xs h all.1)

-- a claim's station and its user frame are there
abbrev HasFrame : List UserFrame → Run → Waiting → Type 0
HasFrame users r w = Exists w.station r × IsSendable (user_at users w.user)

have-all : {A : Type 0} (P : A → Type 0) (xs ys : List A) → AllHave P xs → AllHave P ys
    → AllHave P (xs ++ ys)
have-all P [] ys first second = second
have-all P (x ∷ xs) ys first second = (first.0, have-all P xs ys first.1 second)

have-at : {A : Type 0} (P : A → Type 0) (xs : List A) (n : ℕ) (x : A) → AllHave P xs
    → slice_get xs n ≡ Some x → P x
have-at P [] n x all is = absurd (cc is)
have-at P (y ∷ ys) zero x all is = let same : y ≡ x = cc is in subst P same all.0
have-at P (y ∷ ys) (suc n) x all is = have-at P ys n x all.1 is

under-have : (users : List UserFrame) (r : Run) (s user pn : ℕ) (k : Option Key) (b : Bool)
    → (pn == 0) ≡ b → Exists s r → IsSendable (user_at users user)
    → AllHave (HasFrame users r) (waiting_under s user pn k)
under-have users r s user pn None b is there sendable = tt
under-have users r s user pn (Some k) true is there sendable = rw is tt
under-have users r s user pn (Some k) false is there sendable =
    rw is ((there, sendable), tt)

new-have : (settings : Settings) (users : List UserFrame) (r : Run) (x : Happening) (event : Event)
    → IsAllowed settings users r x event
    → AllHave (HasFrame users r) (claimed_by settings r event)
new-have settings users r x (events.Claim s user pn) allowed =
    under-have users r s user pn (transmitting_at settings s r) (pn == 0) refl allowed.0
    allowed.1
new-have settings users r x (events.Start name sci priority) allowed = tt
new-have settings users r x (events.Tick s next) allowed = tt
new-have settings users r x (events.Deliver frame s) allowed = tt
new-have settings users r x (events.Restart s) allowed = tt
new-have settings users r x events.Emit allowed = tt
new-have settings users r x (events.Inject s octets) allowed = tt

more-there : (s : ℕ) (ps more : List Profile) → s < length ps → s < length (ps ++ more)
more-there s ps more there = let e = length-append ps more in omega arith

claims-have : (settings : Settings) (users : List UserFrame) (r : Run)
    → IsStepped settings users r → AllHave (HasFrame users r) (claimed settings r)
unfolding claimed stations
claims-have settings users [] stepped = tt
claims-have settings users (x ∷ r) (step, before) =
    all-more (HasFrame users r) (HasFrame users (x ∷ r)) (claimed settings (x ∷ r))
    (λ w has. (more-there w.station (stations r) (started x.event) has.0, has.1))
    (have-all (HasFrame users r) (claimed settings r) (claimed_by settings r x.event)
    (claims-have settings users r before)
    (new-have settings users r x x.event step.in_order.1))

get-there : {A : Type 0} (xs : List A) (n : ℕ) → n < length xs → is_some (slice_get xs n) ≡ true
get-there [] n less = absurd (omega arith)
get-there (x ∷ xs) zero less = refl
get-there (x ∷ xs) (suc n) less = get-there xs n (omega arith)

sendable-there : (o : Option UserFrame) → IsSendable o → is_some o ≡ true
sendable-there None sendable = absurd sendable
sendable-there (Some user) sendable = refl

both-there : {A B C : Type 0} (f : A → B → C) (o : Option A) (u : Option B) → is_some o ≡ true
    → is_some u ≡ true → is_some (option_and_then (λ p. option_map (f p) u) o) ≡ true
both-there f None u first second = absurd (cc first)
both-there f (Some p) None first second = absurd (cc second)
both-there f (Some p) (Some b) first second = refl

-- the earliest claim that waits has its frame
pub waiting-framed : (settings : Settings) (users : List UserFrame) (r : Run) (w : Waiting)
    → IsStepped settings users r → waiting settings r ≡ Some w
    → is_some (frame_of_claim users r w) ≡ true
waiting-framed settings users r w stepped waits =
    let has = have-at (HasFrame users r) (claimed settings r) (length (emitted r)) w
    (claims-have settings users r stepped) waits in
    both-there (frame_by w) (slice_get (stations r) w.station) (user_at users w.user)
    (get-there (stations r) w.station has.0) (sendable-there (user_at users w.user) has.1)

-- ---- emitted frames

-- the protected ones of some frames
abbrev protected_of : List Frame → List Frame
protected_of fs = filter (λ (f : Frame). f.sec) fs

-- facts that put no protected frame on the air
abbrev EmitNone : List Fact → Type 0
EmitNone shown = (fs : List Frame) → protected_of (gather framed shown fs) ≡ protected_of fs

sent-plainly : (s sent : ℕ) (o : Option (List ℕ)) (fs : List Frame)
    → protected_of (gather framed
    (option_to_list (option_map (λ octets. facts.Framed sent s false octets) o)) fs)
    ≡ protected_of fs
sent-plainly s sent None fs = refl
sent-plainly s sent (Some octets) fs = refl

reaction-plain : (s heard sent : ℕ) (reaction : Reaction)
    → EmitNone (reaction_facts s heard sent reaction)
reaction-plain s heard sent reaction = λ fs.
    ap protected_of (reaction-air s heard sent reaction fs) ∙ sent-plainly s sent reaction.sent fs

reached-plain : (settings : Settings) (s : ℕ) (r : Run) (number : ℕ) (octets : List ℕ) (l : Life)
    → EmitNone (reached_facts settings s r number octets l)
reached-plain settings s r number octets l = by (is_sec octets) where
  by : (b : Bool) → EmitNone (cond b
      (facts.Arrived number s
      (answer l.member.setup.sci settings.window (receiving s r) octets) ∷ [])
      (reaction_facts s number 0 (frame_turn l.member octets l.past).reaction))
  by true = λ fs. refl
  by false = reaction-plain s number 0 (frame_turn l.member octets l.past).reaction

claim-plain : (settings : Settings) (s : ℕ) (r : Run) (pn : ℕ) (k : Option Key) (b : Bool)
    → EmitNone (cond b (facts.Unclaimed s (lack settings s r k)) (number_fact s pn k) ∷ [])
claim-plain settings s r pn k true = λ fs. refl
claim-plain settings s r pn None false = λ fs. refl
claim-plain settings s r pn (Some k) false = λ fs. refl

-- what an event puts on the air by a claim
abbrev emissions : Event → ℕ
emissions events.Emit = 1
emissions _ = 0

-- facts after which so many more protected frames are on the air
abbrev Emits : Run → List Fact → ℕ → Type 0
Emits r shown more =
    length (protected_of (gather framed shown (air r))) ≡ more + length (emitted r)

plain-emits : (r : Run) (shown : List Fact) → EmitNone shown → Emits r shown 0
plain-emits r shown none = ap (λ (fs : List Frame). length fs) (none (air r)) ∙ omega arith

event-emits : (settings : Settings) (users : List UserFrame) (r : Run) (event : Event)
    (drawn : Drawn) (shown : List Fact) → expected settings users r event drawn ≡ Some shown
    → Emits r shown (emissions event)
unfolding expected
event-emits settings users r (events.Start name sci priority) drawn shown is =
    let begins = mapped (λ mi. facts.Life (length (stations r)) mi ∷ []) drawn.mi shown is in
    subst (λ (f : List Fact). Emits r f 0) begins.2
    (plain-emits r (facts.Life (length (stations r)) begins.0 ∷ []) (λ fs. refl))
event-emits settings users r (events.Tick s next) drawn shown is =
    let lives = mapped (tick_facts settings s r next drawn.sak) (life settings s r) shown is in
    subst (λ (f : List Fact). Emits r f 0) lives.2
    (plain-emits r (tick_facts settings s r next drawn.sak lives.0)
    (reaction-plain s 0 (next_frame r)
    (turn_at_tick settings s r lives.0 next drawn.sak).reaction))
event-emits settings users r (events.Deliver frame s) drawn shown is =
    let there = chained
    (λ f. option_map (reached_facts settings s r frame f.octets) (life settings s r))
    (frame_at r frame) shown is in
    let lives = mapped (reached_facts settings s r frame there.0.octets) (life settings s r) shown
    there.2 in
    subst (λ (f : List Fact). Emits r f 0) lives.2
    (plain-emits r (reached_facts settings s r frame there.0.octets lives.0)
    (reached-plain settings s r frame there.0.octets lives.0))
event-emits settings users r (events.Restart s) drawn shown is =
    let begins = chained (λ mi. option_map (restart_facts s mi) (life settings s r)) drawn.mi shown
    is in
    let lives = mapped (restart_facts s begins.0) (life settings s r) shown begins.2 in
    subst (λ (f : List Fact). Emits r f 0) lives.2
    (plain-emits r (restart_facts s begins.0 lives.0)
    (reaction-plain s 0 0 (ending lives.0.member lives.0.past)))
event-emits settings users r (events.Claim s user pn) drawn shown is =
    let k = transmitting_at settings s r in
    let lives = mapped (λ l. claim_fact settings s r pn k ∷ []) (life settings s r) shown is in
    subst (λ (f : List Fact). Emits r f 0) lives.2
    (plain-emits r (claim_fact settings s r pn k ∷ []) (claim-plain settings s r pn k (pn == 0)))
event-emits settings users r events.Emit drawn shown is =
    let waits = chained (emit_facts users r) (waiting settings r) shown is in
    let puts = mapped (λ octets. facts.Framed (next_frame r) waits.0.station true octets ∷ [])
    (frame_of_claim users r waits.0) shown waits.2 in
    subst (λ (f : List Fact). Emits r f 1) puts.2 (omega arith)
event-emits settings users r (events.Inject s octets) drawn shown is =
    let lives = mapped (reached_facts settings s r 0 octets) (life settings s r) shown is in
    subst (λ (f : List Fact). Emits r f 0) lives.2
    (plain-emits r (reached_facts settings s r 0 octets lives.0)
    (reached-plain settings s r 0 octets lives.0))

below-some : {A : Type 0} (xs : List A) (n : ℕ) → is_some (slice_get xs n) ≡ true → n < length xs
below-some [] n there = absurd (cc there)
below-some (x ∷ xs) zero there = omega arith
below-some (x ∷ xs) (suc n) there = let less = below-some xs n there in omega (arith, less)

-- an emission needs a claim that waits
room : (settings : Settings) (users : List UserFrame) (r : Run) (x : Happening) (event : Event)
    → IsAllowed settings users r x event → length (emitted r) ≤ length (claimed settings r)
    → emissions event + length (emitted r) ≤ length (claimed settings r)
room settings users r x events.Emit allowed turn =
    let less = below-some (claimed settings r) (length (emitted r)) allowed in
    omega (arith, less)
room settings users r x (events.Start name sci priority) allowed turn = omega (arith, turn)
room settings users r x (events.Tick s next) allowed turn = omega (arith, turn)
room settings users r x (events.Deliver frame s) allowed turn = omega (arith, turn)
room settings users r x (events.Restart s) allowed turn = omega (arith, turn)
room settings users r x (events.Claim s user pn) allowed turn = omega (arith, turn)
room settings users r x (events.Inject s octets) allowed turn = omega (arith, turn)

-- a step keeps the emissions in turn
pub stays-in-turn : (settings : Settings) (users : List UserFrame) (x : Happening) (r : Run)
    → IsStep settings users x r → length (emitted r) ≤ length (claimed settings r)
    → length (emitted (x ∷ r)) ≤ length (claimed settings (x ∷ r))
unfolding claimed air
stays-in-turn settings users x r step turn =
    let emits = event-emits settings users r x.event (drawn_in x.facts) x.facts step.shows in
    let free = room settings users r x x.event step.in_order.1 turn in
    let more = length-append (claimed settings r) (claimed_by settings r x.event) in
    omega (arith, emits, free, more)
