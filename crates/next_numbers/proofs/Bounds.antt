-- Next packet numbers that no event leaves out are no more than claims are.
use Rattle.std.proofs.Common.{◌≡◌, ◌≤◌, ◌+◌, ◌==◌, ℕ, Bool, true, false, List, [], ◌∷◌, ◌++◌, map}
use Rattle.std.proofs.Common.{length, Option, Some, None, refl, sym, subst, arith}
use Rattle.std.specs.Prelude.{◌&&◌, cond, max, option_map, option_to_list}
use Rattle.lan_base.specs.declared.address.Mi.{Mi}
use Rattle.lan_base.specs.declared.frame.UserFrame.{UserFrame}
use Rattle.gcm_frames.specs.Tags.{is_sec}
use Rattle.rx_slots.specs.Numbers.{answer}
use Rattle.sak_exchange.specs.declared.change.Change.{Change}
use Rattle.sak_exchange.specs.declared.change.Change.TheVariants as changes
use Rattle.sak_exchange.specs.declared.held_key.Key.{Key}
use Rattle.mka_station.specs.declared.reaction.Reaction.{Reaction}
use Rattle.mka_station.specs.declared.verdict.Verdict.{Verdict}
use Rattle.mka_station.specs.Hearing.{frame_turn}
use Rattle.lan_core.specs.declared.event.Event.{Event}
use Rattle.lan_core.specs.declared.event.Event.TheVariants as events
use Rattle.lan_core.specs.declared.fact.Fact.{Fact}
use Rattle.lan_core.specs.declared.fact.Fact.TheVariants as facts
use Rattle.lan_core.specs.declared.fact.Lack.TheVariants.{NoKey}
use Rattle.lan_core.specs.declared.settings.Settings.{Settings}
use Rattle.lan_core.specs.Run.{Run, Happening, happened, stations}
use Rattle.lan_core.specs.Ledgers.{next_frame, frame_at, air, framed, gather, with_one, Frame}
use Rattle.lan_core.specs.Lives.{Life, life, receiving, transmitting_at}
use Rattle.lan_core.specs.Claims.{next, shown_by, after_claim, is_epoch, waiting, frame_of_claim}
use Rattle.lan_core.specs.Expected.{expected, Drawn, reached_facts, restart_facts}
use Rattle.lan_core.specs.Expected.{reaction_facts, change_fact, claim_fact, number_fact, lack}
use Rattle.lan_core.specs.Expected.{emit_facts}
use Rattle.lan_core.specs.Unstopped.{next_under}
use Rattle.lan_core.proofs.Public.{mapped, chained}
use Rattle.next_numbers.specs.Bounds.{AreBounded, IsPlain}

pub bounded-first : (settings : Settings) → AreBounded settings [] 1
unfolding next
bounded-first settings = λ s epoch. omega arith

pub next-positive : (settings : Settings) (s epoch : ℕ) (r : Run) → 1 ≤ next settings s epoch r
unfolding next
next-positive settings s epoch [] = omega arith
next-positive settings s epoch (x ∷ r) =
    let before = next-positive settings s epoch r in omega (arith, before)

-- ---- facts that tell of no claim first

abbrev TellNone : List Fact → Type 0
TellNone shown = (s epoch : ℕ) → after_claim s epoch shown ≡ 0

by_sent : (t sent : ℕ) (o : Option (List ℕ))
    → TellNone (option_to_list (option_map (λ octets. facts.Framed sent t false octets) o))
by_sent t sent None = λ s epoch. refl
by_sent t sent (Some octets) = λ s epoch. refl

by_changes : (t : ℕ) (cs : List Change) (later : List Fact) → TellNone later
    → TellNone (map (change_fact t) cs ++ later)
by_changes t [] later none = none
by_changes t (changes.Dropped k ∷ cs) later none = λ s epoch. refl
by_changes t (changes.Retired k ∷ cs) later none = λ s epoch. refl
by_changes t (changes.Began k cause ∷ cs) later none = λ s epoch. refl
by_changes t (changes.Installed k ∷ cs) later none = λ s epoch. refl
by_changes t (changes.Untaken id why ∷ cs) later none = λ s epoch. refl

by_server : (t : ℕ) (server : Option (Option Mi)) (later : List Fact) → TellNone later
    → TellNone (option_to_list (option_map (λ m. facts.Server t m) server) ++ later)
by_server t None later none = none
by_server t (Some server) later none = λ s epoch. refl

by_verdict : (t heard : ℕ) (v : Option Verdict) (later : List Fact) → TellNone later
    → TellNone (option_to_list (option_map (λ v. facts.HeardMka heard t v) v) ++ later)
by_verdict t heard None later none = none
by_verdict t heard (Some v) later none = λ s epoch. refl

reaction-none : (t heard sent : ℕ) (reaction : Reaction)
    → TellNone (reaction_facts t heard sent reaction)
reaction-none t heard sent reaction =
    by_verdict t heard reaction.heard _
    (by_server t reaction.server _ (by_changes t reaction.changes _ (by_sent t sent reaction.sent)))

reached-none : (settings : Settings) (t : ℕ) (r : Run) (number : ℕ) (octets : List ℕ) (l : Life)
    → TellNone (reached_facts settings t r number octets l)
reached-none settings t r number octets l = by (is_sec octets) where
  by : (b : Bool) → TellNone (cond b
      (facts.Arrived number t
      (answer l.member.setup.sci settings.window (receiving t r) octets) ∷ [])
      (reaction_facts t number 0 (frame_turn l.member octets l.past).reaction))
  by true = λ s epoch. refl
  by false = reaction-none t number 0 (frame_turn l.member octets l.past).reaction

-- ---- one event more

pub max-bounded : (a b most : ℕ) → a ≤ most → b ≤ most → max a b ≤ most
max-bounded a b most first second = omega (arith, first, second)

cond-bounded : (b : Bool) (n most : ℕ) → n ≤ most → cond b n 0 ≤ most
cond-bounded true n most few = few
cond-bounded false n most few = omega arith

-- what an event shows of next numbers is no more than this
abbrev ShowsBounded : Settings → Run → List Fact → Event → ℕ → Type 0
ShowsBounded settings r shown event most =
    (s epoch : ℕ) → shown_by settings s epoch r shown event ≤ most

pub under-bounded : (settings : Settings) (t : ℕ) (r : Run) (k : Option Key) (most : ℕ)
    → AreBounded settings r most → next_under settings t r k ≤ most
under-bounded settings t r None most few = omega arith
under-bounded settings t r (Some k) most few = few t k.epoch

tick-bounded : (settings : Settings) (t shown : ℕ) (r : Run) (told : List Fact) (most : ℕ)
    → AreBounded settings r most → shown ≡ next_under settings t r (transmitting_at settings t r)
    → ShowsBounded settings r told (events.Tick t shown) most
tick-bounded settings t shown r told most few is = λ s epoch.
    cond-bounded ((t == s) && is_epoch epoch (transmitting_at settings s r)) shown most
    (subst (λ n. n ≤ most) (sym is)
    (under-bounded settings t r (transmitting_at settings t r) most few))

none-bounded : (shown : List Fact) (most : ℕ) → TellNone shown → (s epoch : ℕ)
    → after_claim s epoch shown ≤ most
none-bounded shown most none s epoch =
    subst (λ n. n ≤ most) (sym (none s epoch)) (omega arith)

claim-bounded : (settings : Settings) (t pn : ℕ) (r : Run) (k : Option Key) (most : ℕ) (b : Bool)
    → pn ≤ most → (s epoch : ℕ)
    → after_claim s epoch
    (cond b (facts.Unclaimed t (lack settings t r k)) (number_fact t pn k) ∷ []) ≤ most + 1
claim-bounded settings t pn r k most true few s epoch =
    none-bounded (facts.Unclaimed t (lack settings t r k) ∷ []) (most + 1) (λ s epoch. refl) s epoch
claim-bounded settings t pn r None most false few s epoch =
    none-bounded (facts.Unclaimed t NoKey ∷ []) (most + 1) (λ s epoch. refl) s epoch
claim-bounded settings t pn r (Some k) most false few s epoch =
    cond-bounded ((t == s) && (k.epoch == epoch)) (pn + 1) (most + 1) (omega (arith, few))

plain-shows : (settings : Settings) (users : List UserFrame) (r : Run) (event : Event)
    (drawn : Drawn) (shown : List Fact) (most : ℕ) → AreBounded settings r most
    → IsPlain settings r event
    → expected settings users r event drawn ≡ Some shown
    → ShowsBounded settings r shown event most
unfolding expected
plain-shows settings users r (events.Start name sci priority) drawn shown most few plain is =
    let begins = mapped (λ mi. facts.Life (length (stations r)) mi ∷ []) drawn.mi shown is in
    subst (λ (f : List Fact). ShowsBounded settings r f (events.Start name sci priority) most)
    begins.2
    (none-bounded (facts.Life (length (stations r)) begins.0 ∷ []) most (λ s epoch. refl))
plain-shows settings users r (events.Tick t next) drawn shown most few plain is =
    tick-bounded settings t next r shown most few plain
plain-shows settings users r (events.Deliver frame t) drawn shown most few plain is =
    let there = chained
    (λ f. option_map (reached_facts settings t r frame f.octets) (life settings t r))
    (frame_at r frame) shown is in
    let lives = mapped (reached_facts settings t r frame there.0.octets) (life settings t r) shown
    there.2 in
    subst (λ (f : List Fact). ShowsBounded settings r f (events.Deliver frame t) most) lives.2
    (none-bounded (reached_facts settings t r frame there.0.octets lives.0) most
    (reached-none settings t r frame there.0.octets lives.0))
plain-shows settings users r (events.Restart t) drawn shown most few plain is =
    let begins = chained (λ mi. option_map (restart_facts t mi) (life settings t r)) drawn.mi shown
    is in
    let lives = mapped (restart_facts t begins.0) (life settings t r) shown begins.2 in
    subst (λ (f : List Fact). ShowsBounded settings r f (events.Restart t) most) lives.2
    (none-bounded (restart_facts t begins.0 lives.0) most (λ s epoch. refl))
plain-shows settings users r (events.Claim t user pn) drawn shown most few plain is = absurd plain
plain-shows settings users r events.Emit drawn shown most few plain is =
    let waits = chained (emit_facts users r) (waiting settings r) shown is in
    let puts = mapped (λ octets. facts.Framed (next_frame r) waits.0.station true octets ∷ [])
    (frame_of_claim users r waits.0) shown waits.2 in
    subst (λ (f : List Fact). ShowsBounded settings r f events.Emit most) puts.2
    (none-bounded (facts.Framed (next_frame r) waits.0.station true puts.0 ∷ []) most
    (λ s epoch. refl))
plain-shows settings users r (events.Inject t octets) drawn shown most few plain is =
    let lives = mapped (reached_facts settings t r 0 octets) (life settings t r) shown is in
    subst (λ (f : List Fact). ShowsBounded settings r f (events.Inject t octets) most) lives.2
    (none-bounded (reached_facts settings t r 0 octets lives.0) most
    (reached-none settings t r 0 octets lives.0))

pub plain-bounded : (settings : Settings) (users : List UserFrame) (r : Run) (event : Event)
    (drawn : Drawn) (shown : List Fact) (most : ℕ) → AreBounded settings r most
    → IsPlain settings r event → expected settings users r event drawn ≡ Some shown
    → AreBounded settings (happened event shown ∷ r) most
unfolding next
plain-bounded settings users r event drawn shown most few plain is = λ s epoch.
    max-bounded (shown_by settings s epoch r shown event) (next settings s epoch r) most
    (plain-shows settings users r event drawn shown most few plain is s epoch) (few s epoch)

claim-shows : (settings : Settings) (users : List UserFrame) (r : Run) (t user pn : ℕ)
    (drawn : Drawn) (shown : List Fact) (most : ℕ) → pn ≤ most
    → expected settings users r (events.Claim t user pn) drawn ≡ Some shown
    → ShowsBounded settings r shown (events.Claim t user pn) (most + 1)
unfolding expected
claim-shows settings users r t user pn drawn shown most few is =
    let k = transmitting_at settings t r in
    let lives = mapped (λ l. claim_fact settings t r pn k ∷ []) (life settings t r) shown is in
    subst (λ (f : List Fact). ShowsBounded settings r f (events.Claim t user pn) (most + 1)) lives.2
    (claim-bounded settings t pn r k most (pn == 0) few)

-- a claim of a number leaves next numbers within a bound that lies behind it
pub claim-stays : (settings : Settings) (users : List UserFrame) (r : Run) (t user pn : ℕ)
    (drawn : Drawn) (shown : List Fact) (most : ℕ) → AreBounded settings r (most + 1) → pn ≤ most
    → expected settings users r (events.Claim t user pn) drawn ≡ Some shown
    → AreBounded settings (happened (events.Claim t user pn) shown ∷ r) (most + 1)
unfolding next
claim-stays settings users r t user pn drawn shown most few number is = λ s epoch.
    max-bounded (shown_by settings s epoch r shown (events.Claim t user pn))
    (next settings s epoch r) (most + 1)
    (claim-shows settings users r t user pn drawn shown most number is s epoch) (few s epoch)

-- a claim passes no more than one number
pub claim-passes : (settings : Settings) (users : List UserFrame) (r : Run) (t user pn : ℕ)
    (drawn : Drawn) (shown : List Fact) (most : ℕ) → AreBounded settings r most → pn ≤ most
    → expected settings users r (events.Claim t user pn) drawn ≡ Some shown
    → AreBounded settings (happened (events.Claim t user pn) shown ∷ r) (most + 1)
claim-passes settings users r t user pn drawn shown most few number is =
    claim-stays settings users r t user pn drawn shown most
    (λ s epoch. let f = few s epoch in omega (arith, f)) number is

-- one that gets none passes none
pub no-claim-passes : (settings : Settings) (users : List UserFrame) (r : Run) (t user : ℕ)
    (drawn : Drawn) (shown : List Fact) (most : ℕ) → AreBounded settings r most
    → expected settings users r (events.Claim t user 0) drawn ≡ Some shown
    → AreBounded settings (happened (events.Claim t user 0) shown ∷ r) most
unfolding next expected
no-claim-passes settings users r t user drawn shown most few is = λ s epoch.
    let k = transmitting_at settings t r in
    let lives = mapped (λ l. claim_fact settings t r 0 k ∷ []) (life settings t r) shown is in
    let zeroth : shown_by settings s epoch r shown (events.Claim t user 0) ≤ most =
    subst (λ (f : List Fact). after_claim s epoch f ≤ most) lives.2
    (none-bounded (facts.Unclaimed t (lack settings t r k) ∷ []) most (λ s epoch. refl) s epoch) in
    max-bounded (shown_by settings s epoch r shown (events.Claim t user 0))
    (next settings s epoch r) most zeroth (few s epoch)

-- ---- the air grows

with-one-longer : (o : Option Frame) (fs : List Frame) → length fs ≤ length (with_one o fs)
with-one-longer None fs = omega arith
with-one-longer (Some f) fs = omega arith

gather-longer : (shown : List Fact) (fs : List Frame) → length fs ≤ length (gather framed shown fs)
gather-longer [] fs = omega arith
gather-longer (f ∷ shown) fs =
    let a = with-one-longer (framed f) fs in
    let b = gather-longer shown (with_one (framed f) fs) in omega (arith, a, b)

pub air-longer : (x : Happening) (r : Run) → length (air r) ≤ length (air (x ∷ r))
unfolding air
air-longer x r = gather-longer x.facts (air r)

-- an emission puts a frame on the air
pub emit-longer : (settings : Settings) (users : List UserFrame) (r : Run) (drawn : Drawn)
    (shown : List Fact) → expected settings users r events.Emit drawn ≡ Some shown
    → length (air (happened events.Emit shown ∷ r)) ≡ length (air r) + 1
unfolding air expected
emit-longer settings users r drawn shown is =
    let waits = chained (emit_facts users r) (waiting settings r) shown is in
    let puts = mapped (λ octets. facts.Framed (next_frame r) waits.0.station true octets ∷ [])
    (frame_of_claim users r waits.0) shown waits.2 in
    subst (λ (f : List Fact). length (gather framed f (air r)) ≡ length (air r) + 1) puts.2
    (omega arith)
