-- What events show of keys without a packet number left: nothing, where each claim finds a number or no
-- key.
use Rattle.std.proofs.Common.{◌≡◌, ◌≤◌, ℕ, ◌==◌, Bool, true, false, cond, List, [], ◌∷◌, ◌++◌, map}
use Rattle.std.proofs.Common.{Option, Some, None, inl, inr, length, refl, sym, subst, ap, arith}
use Rattle.std.specs.List.{AllByRecursion}
use Rattle.std.specs.Prelude.{Contains, option_map, option_to_list}
use Rattle.std.proofs.lemmas.Bool.{cases_Bool, eqb-true, le-ltb}
use Rattle.lan_base.specs.declared.address.Mi.{Mi}
use Rattle.lan_base.specs.declared.frame.UserFrame.{UserFrame}
use Rattle.gcm_frames.specs.Tags.{is_sec}
use Rattle.rx_slots.specs.Numbers.{answer}
use Rattle.sak_exchange.specs.declared.change.Change.{Change}
use Rattle.sak_exchange.specs.declared.change.Change.TheVariants as changes
use Rattle.sak_exchange.specs.declared.held_key.Key.{Key}
use Rattle.mka_station.specs.declared.reaction.Reaction.{Reaction}
use Rattle.mka_station.specs.declared.verdict.Verdict.{Verdict}
use Rattle.mka_station.specs.Hearing.{frame_turn}
use Rattle.mka_station.specs.Restart.{ending}
use Rattle.lan_core.specs.declared.event.Event.{Event}
use Rattle.lan_core.specs.declared.event.Event.TheVariants as events
use Rattle.lan_core.specs.declared.fact.Fact.{Fact}
use Rattle.lan_core.specs.declared.fact.Fact.TheVariants as facts
use Rattle.lan_core.specs.declared.fact.Lack.TheVariants.{Exhausted}
use Rattle.lan_core.specs.declared.settings.Settings.{Settings}
use Rattle.lan_core.specs.Run.{Run, facts_of, stations}
use Rattle.lan_core.specs.Ledgers.{frame_at, next_frame}
use Rattle.lan_core.specs.Lives.{Life, life, receiving, transmitting_at, turn_at_tick}
use Rattle.lan_core.specs.Claims.{frame_of_claim, next, waiting}
use Rattle.lan_core.specs.Expected.{Drawn, change_fact, claim_fact, emit_facts, expected, last_number}
use Rattle.lan_core.specs.Expected.{reached_facts, reaction_facts, restart_facts, tick_facts}
use Rattle.lan_core.specs.Unstopped.{next_under}
use Rattle.lan_core.proofs.Public.{chained, mapped}
use Rattle.group_safety.proofs.Public.{In, contains-in}
use Rattle.lan_schedule.specs.Sound.{IsNeverSpent, IsUnspent}
use Rattle.lan_schedule.specs.inside.Staged.{FindsLeft}

abbrev AreUnspent : List Fact → Type 0
AreUnspent shown = AllByRecursion IsUnspent shown

both : (xs ys : List Fact) → AreUnspent xs → AreUnspent ys → AreUnspent (xs ++ ys)
both [] ys first later = later
both (x ∷ xs) ys first later = (first.0, both xs ys first.1 later)

-- ---- what a station shows as it ticks or hears

by-sent : (s sent : ℕ) (o : Option (List ℕ))
    → AreUnspent (option_to_list (option_map (λ octets. facts.Framed sent s false octets) o))
by-sent s sent None = tt
by-sent s sent (Some octets) = (tt, tt)

by-changes : (s : ℕ) (cs : List Change) → AreUnspent (map (change_fact s) cs)
by-changes s [] = tt
by-changes s (changes.Dropped k ∷ cs) = (tt, by-changes s cs)
by-changes s (changes.Retired k ∷ cs) = (tt, by-changes s cs)
by-changes s (changes.Began k cause ∷ cs) = (tt, by-changes s cs)
by-changes s (changes.Installed k ∷ cs) = (tt, by-changes s cs)
by-changes s (changes.Untaken id why ∷ cs) = (tt, by-changes s cs)

by-server : (s : ℕ) (server : Option (Option Mi))
    → AreUnspent (option_to_list (option_map (λ m. facts.Server s m) server))
by-server s None = tt
by-server s (Some server) = (tt, tt)

by-verdict : (s heard : ℕ) (v : Option Verdict)
    → AreUnspent (option_to_list (option_map (λ v. facts.HeardMka heard s v) v))
by-verdict s heard None = tt
by-verdict s heard (Some v) = (tt, tt)

by-reaction : (s heard sent : ℕ) (reaction : Reaction) → AreUnspent (reaction_facts s heard sent reaction)
by-reaction s heard sent reaction =
    both _ _ (by-verdict s heard reaction.heard)
    (both _ _ (by-server s reaction.server)
    (both _ _ (by-changes s reaction.changes) (by-sent s sent reaction.sent)))

by-reached : (settings : Settings) (s : ℕ) (r : Run) (number : ℕ) (octets : List ℕ) (l : Life)
    → AreUnspent (reached_facts settings s r number octets l)
by-reached settings s r number octets l = go (is_sec octets)
  where
    go : (b : Bool) → AreUnspent (cond b
        (facts.Arrived number s
        (answer l.member.setup.sci settings.window (receiving s r) octets) ∷ [])
        (reaction_facts s number 0 (frame_turn l.member octets l.past).reaction))
    go true = (tt, tt)
    go false = by-reaction s number 0 (frame_turn l.member octets l.past).reaction

-- ---- what a claim shows

by-claim : (settings : Settings) (s pn : ℕ) (r : Run) (o : Option Key)
    → ((pn == 0) ≡ true → (k : Key) → o ≡ Some k → next settings s k.epoch r ≤ last_number)
    → IsUnspent (claim_fact settings s r pn o)
by-claim settings s pn r None finds = elim (cases_Bool (pn == 0)) [
  | inl none ↦ rw none tt
  | inr some ↦ rw some tt
]
by-claim settings s pn r (Some k) finds = elim (cases_Bool (pn == 0)) [
  | inl none ↦ (let not_past = le-ltb last_number (next settings s k.epoch r) (finds none k refl) in
      rw (none, not_past) tt)
  | inr some ↦ rw some tt
]

-- ---- what an event shows

pub facts-unspent : (settings : Settings) (users : List UserFrame) (r : Run) (event : Event) (drawn : Drawn)
    (shown : List Fact) → expected settings users r event drawn ≡ Some shown
    → FindsLeft settings r event → AllByRecursion IsUnspent shown
unfolding expected
facts-unspent settings users r (events.Start name sci priority) drawn shown shows left =
    let begins = mapped (λ mi. facts.Life (length (stations r)) mi ∷ []) drawn.mi shown shows in
    subst AreUnspent begins.2 (tt, tt)
facts-unspent settings users r (events.Tick s next) drawn shown shows left =
    let lives = mapped (tick_facts settings s r next drawn.sak) (life settings s r) shown shows in
    subst AreUnspent lives.2
    (tt, by-reaction s 0 (next_frame r) (turn_at_tick settings s r lives.0 next drawn.sak).reaction)
facts-unspent settings users r (events.Deliver frame s) drawn shown shows left =
    let there =
    chained (λ f. option_map (reached_facts settings s r frame f.octets) (life settings s r))
    (frame_at r frame)
    shown shows in
    let lives = mapped (reached_facts settings s r frame there.0.octets) (life settings s r) shown
    there.2 in
    subst AreUnspent lives.2 (by-reached settings s r frame there.0.octets lives.0)
facts-unspent settings users r (events.Restart s) drawn shown shows left =
    let begins = chained (λ mi. option_map (restart_facts s mi) (life settings s r)) drawn.mi shown shows in
    let lives = mapped (restart_facts s begins.0) (life settings s r) shown begins.2 in
    subst AreUnspent lives.2 (tt, by-reaction s 0 0 (ending lives.0.member lives.0.past))
facts-unspent settings users r (events.Claim s user pn) drawn shown shows left =
    subst AreUnspent (mapped (λ l. claim_fact settings s r pn (transmitting_at settings s r) ∷ [])
    (life settings s r) shown shows).2
    (by-claim settings s pn r (transmitting_at settings s r) left, tt)
facts-unspent settings users r events.Emit drawn shown shows left =
    let waits = chained (emit_facts users r) (waiting settings r) shown shows in
    let puts = mapped (λ octets. facts.Framed (next_frame r) waits.0.station true octets ∷ [])
    (frame_of_claim users r waits.0)
    shown waits.2 in
    subst AreUnspent puts.2 (tt, tt)
facts-unspent settings users r (events.Inject s octets) drawn shown shows left =
    let lives = mapped (reached_facts settings s r 0 octets) (life settings s r) shown shows in
    subst AreUnspent lives.2 (by-reached settings s r 0 octets lives.0)

-- a claim that gets no number where no key transmits finds none without a number
pub finds-left : (settings : Settings) (s pn : ℕ) (r : Run)
    → (pn ≡ 0 → next_under settings s r (transmitting_at settings s r) ≡ 0)
    → (pn == 0) ≡ true → (k : Key) → transmitting_at settings s r ≡ Some k
    → next settings s k.epoch r ≤ last_number
finds-left settings s pn r gets none k is =
    let zero_is = gets (eqb-true pn 0 none) in
    let same = ap (λ (o : Option Key). next_under settings s r o) is in omega (arith, zero_is, same)

-- ---- no fact of a run says so

unspent-in : (shown : List Fact) → AreUnspent shown → (fact : Fact) → In fact shown → IsUnspent fact
unspent-in [] are fact i = absurd i
unspent-in (x ∷ shown) are fact (inl e) = subst IsUnspent (sym e) are.0
unspent-in (x ∷ shown) are fact (inr i) = unspent-in shown are.1 fact i

all-unspent : (r : Run) → IsNeverSpent r → AreUnspent (facts_of r)
all-unspent [] never = tt
all-unspent (x ∷ r) never = both (facts_of r) x.facts (all-unspent r never.1) never.0

pub never-says : (r : Run) → IsNeverSpent r → (s epoch : ℕ)
    → Contains (facts_of r) (facts.Unclaimed s (Exhausted epoch)) → ⊥
never-says r never s epoch there =
    unspent-in (facts_of r) (all-unspent r never) (facts.Unclaimed s (Exhausted epoch))
    (contains-in (facts_of r) (facts.Unclaimed s (Exhausted epoch)) there)
