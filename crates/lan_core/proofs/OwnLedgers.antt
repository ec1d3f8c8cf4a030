-- What the facts of an event add to the ledgers of their station, and what they leave.
use Rattle.std.proofs.Common.{◌≡◌, ◌≢◌, ◌+◌, ℕ, Bool, true, false, cond, List, [], ◌∷◌, ◌++◌, length, map}
use Rattle.std.proofs.Common.{Option, Some, None, refl, arith}
use Rattle.std.specs.Prelude.{◌==◌, option_map, option_to_list}
use Rattle.std.specs.List.{filter}
use Rattle.std.specs.Option.{option_or}
use Rattle.std.proofs.lemmas.Bool.{ne_eqb}
use Rattle.lan_base.specs.declared.address.Mi.{Mi}
use Rattle.aes_block.specs.declared.secret.Secret.{Secret}
use Rattle.gcm_frames.specs.Tags.{is_sec}
use Rattle.rx_slots.specs.Histories.{Receiving}
use Rattle.rx_slots.specs.Numbers.{answer}
use Rattle.sak_exchange.specs.declared.change.Change.{Change}
use Rattle.sak_exchange.specs.declared.change.Change.TheVariants as changes
use Rattle.mka_station.specs.declared.reaction.Reaction.{Reaction}
use Rattle.mka_station.specs.declared.verdict.Verdict.{Verdict}
use Rattle.mka_station.specs.Hearing.{frame_turn}
use Rattle.mka_station.specs.Restart.{ending}
use Rattle.lan_core.specs.declared.fact.Fact.{Fact}
use Rattle.lan_core.specs.declared.fact.Fact.TheVariants as facts
use Rattle.lan_core.specs.declared.settings.Settings.{Settings}
use Rattle.lan_core.specs.Run.{Run, place}
use Rattle.lan_core.specs.Ledgers.{gather, install_of, Install}
use Rattle.lan_core.specs.Lives.{Life, receiving, slot_change, drawn_mi, drawn_sak, turn_at_tick}
use Rattle.lan_core.specs.Expected.{change_fact, reaction_facts, tick_facts, reached_facts, restart_facts}
use Rattle.lan_core.specs.Ledgers.{next_frame}
use Rattle.lan_core.specs.inside.Seats.{installs_in}
use Rattle.lan_core.specs.inside.Shown.{sent_in}
use Rattle.lan_core.proofs.Reactions.{passed-over}

-- ---- facts of one station

abbrev pub AreOf : ℕ → List Fact → Type 0
AreOf s [] = Unit {0}
AreOf s (fact ∷ later) = (place fact ≡ s) × AreOf s later

joined : (s : ℕ) (xs ys : List Fact) → AreOf s xs → AreOf s ys → AreOf s (xs ++ ys)
joined s [] ys are others = others
joined s (x ∷ xs) ys (is, are) others = (is, joined s xs ys are others)

verdict_is : (s heard : ℕ) (v : Option Verdict)
    → AreOf s (option_to_list (option_map (λ v. facts.HeardMka heard s v) v))
verdict_is s heard None = tt
verdict_is s heard (Some v) = (refl, tt)

server_is : (s : ℕ) (server : Option (Option Mi))
    → AreOf s (option_to_list (option_map (λ m. facts.Server s m) server))
server_is s None = tt
server_is s (Some server) = (refl, tt)

changes_are : (s : ℕ) (cs : List Change) → AreOf s (map (change_fact s) cs)
changes_are s [] = tt
changes_are s (changes.Dropped k ∷ cs) = (refl, changes_are s cs)
changes_are s (changes.Retired k ∷ cs) = (refl, changes_are s cs)
changes_are s (changes.Began k cause ∷ cs) = (refl, changes_are s cs)
changes_are s (changes.Installed k ∷ cs) = (refl, changes_are s cs)
changes_are s (changes.Untaken id why ∷ cs) = (refl, changes_are s cs)

sent_is : (s sent : ℕ) (o : Option (List ℕ))
    → AreOf s (option_to_list (option_map (λ octets. facts.Framed sent s false octets) o))
sent_is s sent None = tt
sent_is s sent (Some octets) = (refl, tt)

pub reaction-is-of : (s heard sent : ℕ) (reaction : Reaction)
    → AreOf s (reaction_facts s heard sent reaction)
reaction-is-of s heard sent reaction =
    joined s _ _ (verdict_is s heard reaction.heard)
    (joined s _ _ (server_is s reaction.server)
    (joined s _ _ (changes_are s reaction.changes) (sent_is s sent reaction.sent)))

pub tick-is-of : (settings : Settings) (s : ℕ) (r : Run) (next : ℕ) (sak : Secret) (l : Life)
    → AreOf s (tick_facts settings s r next sak l)
tick-is-of settings s r next sak l =
    (refl, reaction-is-of s 0 (next_frame r) (turn_at_tick settings s r l next sak).reaction)

pub reached-is-of : (settings : Settings) (s : ℕ) (r : Run) (number : ℕ) (octets : List ℕ) (l : Life)
    → AreOf s (reached_facts settings s r number octets l)
reached-is-of settings s r number octets l = go (is_sec octets)
  where
    go : (b : Bool) → AreOf s (cond b
        (facts.Arrived number s
        (answer l.member.setup.sci settings.window (receiving s r) octets) ∷ [])
        (reaction_facts s number 0 (frame_turn l.member octets l.past).reaction))
    go true = (refl, tt)
    go false = reaction-is-of s number 0 (frame_turn l.member octets l.past).reaction

pub restart-is-of : (s : ℕ) (mi : Mi) (l : Life) → AreOf s (restart_facts s mi l)
restart-is-of s mi l = (refl, reaction-is-of s 0 0 (ending l.member l.past))

-- ---- what they leave of other stations

off : (t s station : ℕ) → t ≢ s → station ≡ s → (station == t) ≡ false
off t s station differ is = ne_eqb station t (λ same. differ (cc (is, same)))

pub slots-of-others : (t s : ℕ) → t ≢ s → (fs : List Fact) → AreOf s fs → (h : List Receiving)
    → gather (slot_change t) fs h ≡ h
slots-of-others t s differ [] are h = refl
slots-of-others t s differ (facts.Installed station id an epoch sak ∷ later) (is, are) h =
    rw (off t s station differ is) (slots-of-others t s differ later are h)
slots-of-others t s differ (facts.Dropped station id an ∷ later) (is, are) h =
    rw (off t s station differ is) (slots-of-others t s differ later are h)
slots-of-others t s differ (facts.Retired station id an ∷ later) (is, are) h =
    rw (off t s station differ is) (slots-of-others t s differ later are h)
slots-of-others t s differ (fact ∷ later) (is, are) h = slots-of-others t s differ later are h

abbrev pub installs_of : ℕ → List Install → List Install
installs_of t is = filter (λ i. i.station == t) is

pub installs-of-others : (t s : ℕ) → t ≢ s → (fs : List Fact) → AreOf s fs → (is : List Install)
    → installs_of t (gather install_of fs is) ≡ installs_of t is
installs-of-others t s differ [] are is = refl
installs-of-others t s differ (facts.Installed station id an epoch sak ∷ later) (is, are) others =
    let here : Install = record { station = station; id = id; an = an; epoch = epoch; sak = sak } in
    rw (installs-of-others t s differ later are (here ∷ others), off t s station differ is) refl
installs-of-others t s differ (fact ∷ later) (is, are) others =
    installs-of-others t s differ later are others

same_place : (s station : ℕ) → station ≡ s → (station == s) ≡ true
same_place s station is = grind arith

pub installs-of-own : (s : ℕ) (fs : List Fact) → AreOf s fs → (is : List Install)
    → length (installs_of s (gather install_of fs is)) ≡ length (installs_of s is) + installs_in fs
installs-of-own s [] are is = omega arith
installs-of-own s (facts.Installed station id an epoch sak ∷ later) (is, are) others =
    let here : Install = record { station = station; id = id; an = an; epoch = epoch; sak = sak } in
    let after = installs-of-own s later are (here ∷ others) in
    let counted : length (installs_of s (here ∷ others)) ≡ length (installs_of s others) + 1 =
    rw (same_place s station is) (omega arith) in
    omega arith
installs-of-own s (fact ∷ later) (is, are) others = installs-of-own s later are others

-- ---- what is sent

sent_by_changes : (s : ℕ) (cs : List Change) (later : List Fact)
    → sent_in (map (change_fact s) cs ++ later) ≡ sent_in later
sent_by_changes s [] later = refl
sent_by_changes s (changes.Dropped k ∷ cs) later = sent_by_changes s cs later
sent_by_changes s (changes.Retired k ∷ cs) later = sent_by_changes s cs later
sent_by_changes s (changes.Began k cause ∷ cs) later = sent_by_changes s cs later
sent_by_changes s (changes.Installed k ∷ cs) later = sent_by_changes s cs later
sent_by_changes s (changes.Untaken id why ∷ cs) later = sent_by_changes s cs later

sent_last : (s sent : ℕ) (o : Option (List ℕ))
    → sent_in (option_to_list (option_map (λ octets. facts.Framed sent s false octets) o)) ≡ o
sent_last s sent None = refl
sent_last s sent (Some octets) = refl

pub reaction-sends : (s heard sent : ℕ) (reaction : Reaction)
    → sent_in (reaction_facts s heard sent reaction) ≡ reaction.sent
reaction-sends s heard sent reaction =
    rw (
      passed-over sent_in (λ v. facts.HeardMka heard s v) reaction.heard _ (λ v. refl),
      passed-over sent_in (λ m. facts.Server s m) reaction.server _ (λ m. refl),
      sent_by_changes s reaction.changes _,
    )
    (sent_last s sent reaction.sent)

-- ---- what was drawn

-- the key that changes install
abbrev pub installed_by : List Change → Option Secret
installed_by [] = None
installed_by (changes.Installed k ∷ cs) = Some k.key.sak
installed_by (_ ∷ cs) = installed_by cs

sak_of_changes : (s : ℕ) (cs : List Change) (later : List Fact)
    → drawn_sak (map (change_fact s) cs ++ later) ≡ option_or (installed_by cs) (drawn_sak later)
sak_of_changes s [] later = refl
sak_of_changes s (changes.Dropped k ∷ cs) later = sak_of_changes s cs later
sak_of_changes s (changes.Retired k ∷ cs) later = sak_of_changes s cs later
sak_of_changes s (changes.Began k cause ∷ cs) later = sak_of_changes s cs later
sak_of_changes s (changes.Installed k ∷ cs) later = refl
sak_of_changes s (changes.Untaken id why ∷ cs) later = sak_of_changes s cs later

sak_of_sent : (s sent : ℕ) (o : Option (List ℕ)) (cs : List Change)
    → option_or (installed_by cs)
    (drawn_sak (option_to_list (option_map (λ octets. facts.Framed sent s false octets) o)))
    ≡ installed_by cs
sak_of_sent s sent o cs = go o (installed_by cs)
  where
    go : (o : Option (List ℕ)) (sak : Option Secret)
        → option_or sak
        (drawn_sak (option_to_list (option_map (λ octets. facts.Framed sent s false octets) o))) ≡ sak
    go None None = refl
    go None (Some sak) = refl
    go (Some octets) None = refl
    go (Some octets) (Some sak) = refl

pub reaction-installs : (s heard sent : ℕ) (reaction : Reaction)
    → drawn_sak (reaction_facts s heard sent reaction) ≡ installed_by reaction.changes
reaction-installs s heard sent reaction =
    rw (
      passed-over drawn_sak (λ v. facts.HeardMka heard s v) reaction.heard _ (λ v. refl),
      passed-over drawn_sak (λ m. facts.Server s m) reaction.server _ (λ m. refl),
      sak_of_changes s reaction.changes _,
    )
    (sak_of_sent s sent reaction.sent reaction.changes)

mi_of_changes : (s : ℕ) (cs : List Change) (later : List Fact)
    → drawn_mi (map (change_fact s) cs ++ later) ≡ drawn_mi later
mi_of_changes s [] later = refl
mi_of_changes s (changes.Dropped k ∷ cs) later = mi_of_changes s cs later
mi_of_changes s (changes.Retired k ∷ cs) later = mi_of_changes s cs later
mi_of_changes s (changes.Began k cause ∷ cs) later = mi_of_changes s cs later
mi_of_changes s (changes.Installed k ∷ cs) later = mi_of_changes s cs later
mi_of_changes s (changes.Untaken id why ∷ cs) later = mi_of_changes s cs later

mi_of_sent : (s sent : ℕ) (o : Option (List ℕ))
    → drawn_mi (option_to_list (option_map (λ octets. facts.Framed sent s false octets) o)) ≡ None
mi_of_sent s sent None = refl
mi_of_sent s sent (Some octets) = refl

pub reaction-begins-none : (s heard sent : ℕ) (reaction : Reaction)
    → drawn_mi (reaction_facts s heard sent reaction) ≡ None
reaction-begins-none s heard sent reaction =
    rw (
      passed-over drawn_mi (λ v. facts.HeardMka heard s v) reaction.heard _ (λ v. refl),
      passed-over drawn_mi (λ m. facts.Server s m) reaction.server _ (λ m. refl),
      mi_of_changes s reaction.changes _,
    )
    (mi_of_sent s sent reaction.sent)
