-- Each event of a stepped run keeps it known.
use Rattle.std.proofs.Common.{◌≡◌, ◌<◌, ◌^◌, sym, ap, ◌∙◌, subst, inl, inr, ℕ, List, [], ◌∷◌, ◌++◌}
use Rattle.std.proofs.Common.{map, Option, Some, None, arith}
use Rattle.std.specs.Prelude.{option_map, unwrap_or}
use Rattle.lan_base.specs.declared.frame.UserFrame.{UserFrame}
use Rattle.aes_block.specs.declared.secret.Secret.{Secret}
use Rattle.aes_block.specs.Secrets.{secret_octets}
use Rattle.sak_exchange.specs.declared.due.Seen.{Seen}
use Rattle.sak_exchange.specs.declared.held_key.Key.{Key}
use Rattle.sak_exchange.specs.Histories as keys
use Rattle.sak_exchange.specs.Held.{latest, old}
use Rattle.sak_exchange.specs.Beginning.{Beginning}
use Rattle.mka_station.specs.Lives.{Member, Entry, ticked, keys_of}
use Rattle.mka_station.specs.Announcing.{frame_of}
use Rattle.mka_station.specs.Tick.{with_install, with_beginning}
use Rattle.mka_station.specs.Tick.{ticked_past, says_at}
use Rattle.lan_core.specs.declared.event.Event.TheVariants as events
use Rattle.lan_core.specs.declared.fact.Fact.{Fact}
use Rattle.lan_core.specs.declared.settings.Settings.{Settings}
use Rattle.lan_core.specs.Run.{Run, happened}
use Rattle.lan_core.specs.Ledgers.{Install, Frame, next_frame}
use Rattle.lan_core.specs.Lives.{Life, life, lived, lived_ticking, receiving, keys_in, seen_at}
use Rattle.lan_core.specs.Lives.{lowest_under, turn_at_tick, drawn_sak, sak_in, no_sak}
use Rattle.lan_core.specs.Expected.{tick_facts}
use Rattle.lan_core.specs.Order.{IsOfSuite}
use Rattle.lan_core.specs.Types.{IsSecret, IfDrawn}
use Rattle.lan_core.specs.Fresh.{drawn_saks}
use Rattle.group_safety.specs.Once.{makes}
use Rattle.group_safety.proofs.Members.{In}
use Rattle.group_safety.proofs.once.Currents.{some-same}
use Rattle.group_safety.proofs.once.Gists.{IsGist, installed_at, sent_frame, reaction-is}
use Rattle.group_safety.proofs.once.Nexts.{makes-next, drawn-next, life-next, drawn-is, at-or-other}
use Rattle.group_safety.proofs.once.Living.{install_by, IsPlain}
use Rattle.group_safety.proofs.once.Ticking.{tick_key, tick_roster, tick_lead}
use Rattle.group_safety.proofs.once.Ticking.{turn-sent, turn-changes, SeenSmall}
use Rattle.group_safety.proofs.once.Stepping.{IsLifeOf}

-- ---- a tick

pub seen-small : (settings : Settings) (s : ℕ) (r : Run) (l : Life) (next : ℕ)
    → SeenSmall (seen_at settings s r l next)
seen-small settings s r l next = record {
  newer = low (latest (keys_in l));
  older = low (old (keys_in l));
}
  where
    low : (o : Option Key) → lowest_under settings l.member.setup.sci (receiving s r) o < 2 ^ 32
    low None = omega arith
    low (Some k) = omega arith

-- the facts of a tick
pub tick-gist : (settings : Settings) (s : ℕ) (r : Run) (next : ℕ) (sak : Secret) (l : Life)
    → let seen = seen_at settings s r l next in
    IsGist (tick_facts settings s r next sak l) []
    (installed_at s (tick_key l.member seen sak l.past))
    (sent_frame (next_frame r) s
    (option_map (frame_of l.member.setup) (says_at l.member seen sak l.past))) []
tick-gist settings s r next sak l =
    let seen = seen_at settings s r l next in
    let turn = turn_at_tick settings s r l next sak in
    let key = tick_key l.member seen sak l.past in
    let g = reaction-is s 0 (next_frame r) turn.reaction key
    (turn-changes s l.member seen sak l.past) in
    subst (λ o. IsGist (tick_facts settings s r next sak l) [] (installed_at s key)
    (sent_frame (next_frame r) s o) [])
    (turn-sent l.member seen sak l.past)
    (record { births = g.births; installs = g.installs; air = g.air; claims = g.claims })

-- the SAK of a made key is a secret
pub drawn-secret : (settings : Settings) (f : List Fact) (s : ℕ) (o : Option Key) {fs : List Frame}
    → IsGist f [] (installed_at s o) fs [] → IfDrawn (IsOfSuite settings) (drawn_sak f)
    → (k : Key) → o ≡ Some k → IsSecret (sak_in f)
drawn-secret settings f s o g is k e =
    let drawn : drawn_sak f ≡ Some k.sak = drawn-is f s o g
    ∙ ap (option_map (λ (w : Key). w.sak)) e in
    let secret : IsOfSuite settings k.sak = subst (IfDrawn (IsOfSuite settings)) drawn is in
    subst IsSecret (sym (ap (λ w. unwrap_or w no_sak) drawn)) secret.secret

-- the SAKs that were drawn are those of the keys that were made
pub tick-drawn : (settings : Settings) (users : List UserFrame) (s next : ℕ) (f : List Fact)
    (r : Run) (o : Option Key) {fs : List Frame}
    → IsGist f [] (installed_at s o) fs [] → IsPlain settings users r
    → let x = happened (events.Tick s next) f in
    (makes (x ∷ r) ≡ installed_at s o ++ makes r)
    × (map (λ i. secret_octets i.sak) (makes (x ∷ r)) ≡ drawn_saks (x ∷ r))
tick-drawn settings users s next f r o g v =
    let x = happened (events.Tick s next) f in
    let made = makes-next x r ∙ g.installs (makes r) in
    (made, go o (drawn-is f s o g) made)
  where
    go : (o : Option Key) → drawn_sak f ≡ option_map (λ k. k.sak) o
        → makes (happened (events.Tick s next) f ∷ r) ≡ installed_at s o ++ makes r
        → map (λ i. secret_octets i.sak) (makes (happened (events.Tick s next) f ∷ r))
        ≡ drawn_saks (happened (events.Tick s next) f ∷ r)
    go None drawn made =
        rw (made, drawn-next (happened (events.Tick s next) f) r, drawn) v.drawn
    go (Some k) drawn made =
        rw (made, drawn-next (happened (events.Tick s next) f) r, drawn)
        (ap (λ w. secret_octets k.sak ∷ w) v.drawn)

-- the life of a station after a tick of it
pub tick-lives : (settings : Settings) (s next : ℕ) (f : List Fact) (r : Run) (l : Life)
    → life settings s r ≡ Some l
    → IsLifeOf settings (happened (events.Tick s next) f) r s
    (lived l (turn_at_tick settings s r l next (sak_in f)))
tick-lives settings s next f r l living t n e =
    elim (at-or-other s t
    (option_map (lived_ticking settings t r next (sak_in f)) (life settings t r))
    (life settings t r) (Some n)
    (sym (life-next settings t (happened (events.Tick s next) f) r) ∙ e)) [
      | inl here ↦
          let there : life settings t r ≡ Some l = ap (λ w. life settings w r) (sym here.0)
          ∙ living in
          let same : Some (lived_ticking settings t r next (sak_in f) l) ≡ Some n =
          rw there at here.1 in
          inl (
            here.0,
            ap (λ w. lived_ticking settings w r next (sak_in f) l) here.0
                ∙ some-same same,
          )
      | inr there ↦ inr there
    ]

-- the keys that a station installed by then, at a tick
pub tick-backed : (m : Member) (seen : Seen) (sak : Secret) (p : List Entry) (s : ℕ)
    (is : List Install)
    → ((k : Key) → In k (keys.installs (keys_of m p)) → In (install_by s k) is) → (k : Key)
    → In k (keys.installs (keys_of m (ticked_past m seen sak p)))
    → In (install_by s k) (installed_at s (tick_key m seen sak p) ++ is)
unfolding keys_of
tick-backed m seen sak p s is backed k i = go (tick_key m seen sak p) (tick_lead m p) i
  where
    go : (o : Option Key) (b : Option Beginning)
        → In k (keys.installs
        (keys_of m (with_install (Some (tick_roster m p)) o (with_beginning b (ticked ∷ p)))))
        → In (install_by s k) (installed_at s o ++ is)
    go None None j = backed k j
    go None (Some b) j = backed k j
    go (Some n) None j = elim j [ inl e ↦ inl (ap (install_by s) e) | inr h ↦ inr (backed k h) ]
    go (Some n) (Some b) j = elim j [ inl e ↦ inl (ap (install_by s) e) | inr h ↦ inr (backed k h) ]
