-- What a tick draws: the SAK of the key that it makes, and nothing where it makes none.
use Rattle.std.proofs.Common.{◌≡◌, ◌∙◌, ◌<◌, ◌*◌, ℕ, Bool, true, false, cond, List, []}
use Rattle.std.proofs.Common.{◌∷◌, ◌++◌, length, map}
use Rattle.std.proofs.Common.{Option, Some, None, refl, sym, ap, subst, arith, filter}
use Rattle.std.specs.Prelude.{◌==◌, option_map, option_and_then, option_to_list, is_none, unwrap_or}
use Rattle.std.specs.Prelude.{slice_get}
use Rattle.std.specs.Option.{option_or}
use Rattle.std.proofs.lemmas.List.{length-drop, length-append}
use Rattle.std.proofs.lemmas.List.Elements.{All-drop, All-append}
use Rattle.lan_base.specs.declared.address.Mi.{Mi}
use Rattle.lan_base.specs.declared.suite.Suite.{Suite}
use Rattle.lan_base.specs.declared.suite.Suite.TheVariants.{GcmAes128, GcmAes256}
use Rattle.lan_base.specs.Suites.{key_bits, sak_draws}
use Rattle.aes_block.specs.Secrets.{secret_octets}
use Rattle.aes_block.specs.declared.secret.Secret.{Secret}
use Rattle.aes_block.specs.declared.secret.Secret.TheVariants.{S128, S256}
use Rattle.gcm_frames.specs.Tags.{is_sec}
use Rattle.sak_exchange.specs.declared.change.Change.{Change}
use Rattle.sak_exchange.specs.declared.change.Change.TheVariants as changes
use Rattle.sak_exchange.specs.declared.held_key.HeldKey.{HeldKey}
use Rattle.sak_exchange.specs.declared.due.Seen.{Seen}
use Rattle.sak_exchange.specs.declared.held_key.Key.{Key}
use Rattle.sak_exchange.specs.Histories.{Keying, installed}
use Rattle.sak_exchange.specs.Held.{ends, received, held, shown as seen_as}
use Rattle.sak_exchange.specs.Beginning.{Beginning, retired}
use Rattle.sak_exchange.specs.Making.{made_key}
use Rattle.sak_exchange.specs.Outcomes.{beginning}
use Rattle.mka_station.specs.Lives.{Member, Entry, ticked}
use Rattle.mka_station.specs.Views.{view}
use Rattle.mka_station.specs.Announcing.{says_now, lowest_in, frame_of}
use Rattle.mka_station.specs.Tick.{Turn, tick_turn, led, made, ended, install_changes}
use Rattle.mka_station.specs.Tick.{roster_at, begun_past, with_install, with_sent, new_server}
use Rattle.mka_station.specs.Hearing.{frame_turn}
use Rattle.mka_station.specs.Drawing.{makes_next, sak_of}
use Rattle.mka_station.specs.Standing.{drawn_mi as mi_of_draw}
use Rattle.lan_core.specs.declared.event.Event.{Event}
use Rattle.lan_core.specs.declared.event.Event.TheVariants as events
use Rattle.lan_core.specs.declared.fact.Fact.{Fact}
use Rattle.lan_core.specs.declared.settings.Settings.{Settings}
use Rattle.lan_core.specs.Run.{Run, Profile, stations}
use Rattle.lan_core.specs.Ledgers.{next_frame, installs_at}
use Rattle.lan_core.specs.Lives.{Life, life, life_after, begun, reaches, setup_of, drawn_mi}
use Rattle.lan_core.specs.Lives.{drawn_sak, sak_in, no_sak, turn_at_tick, seen_at}
use Rattle.lan_core.specs.Lives.{lived, lived_reached, lived_hearing, lived_ticking}
use Rattle.lan_core.specs.Expected.{tick_facts}
use Rattle.lan_core.specs.Types.{IsMi, IsSecret}
use Rattle.lan_core.specs.Order.{IsOfSuite}
use Rattle.lan_core.specs.Stops.{is_spent}
use Rattle.lan_core.specs.Unstopped.{AreDraws}
use Rattle.lan_core.proofs.OwnLedgers.{installed_by, reaction-installs}

some-same : {A : Type 0} {a b : A} → Some a ≡ Some b → a ≡ b
some-same is = cc is

-- ---- what changes install

either : (cs ds : List Change)
    → installed_by (cs ++ ds) ≡ option_or (installed_by cs) (installed_by ds)
either [] ds = refl
either (changes.Dropped k ∷ cs) ds = either cs ds
either (changes.Retired k ∷ cs) ds = either cs ds
either (changes.Began k cause ∷ cs) ds = either cs ds
either (changes.Installed k ∷ cs) ds = refl
either (changes.Untaken id why ∷ cs) ds = either cs ds

second : (cs ds : List Change) → installed_by cs ≡ None → installed_by (cs ++ ds) ≡ installed_by ds
second cs ds none = either cs ds ∙ ap (λ o. option_or o (installed_by ds)) none

by_drops : (f : Key → HeldKey) (ks : List Key)
    → installed_by (map (λ k. changes.Dropped (f k)) ks) ≡ None
by_drops f [] = refl
by_drops f (k ∷ ks) = by_drops f ks

by_retiring : (f : Key → HeldKey) (o : Option Key)
    → installed_by (option_to_list (option_map (λ k. changes.Retired (f k)) o)) ≡ None
by_retiring f None = refl
by_retiring f (Some k) = refl

by_end : (h : List Keying) (server : Option Mi) → installed_by (ended h server) ≡ None
by_end h None = by_drops (held h) (received h)
by_end h (Some server) = by_retiring (held h) (retired h)

by_beginning : (h : List Keying) (b : Option Beginning)
    → installed_by (beginning h b).changes ≡ None
by_beginning h None = refl
by_beginning h (Some b) = refl

by_install : (h : List Keying) (roster : Option (List Mi)) (k : Option Key)
    → installed_by (install_changes h roster k) ≡ option_map (λ k. k.sak) k
by_install h roster None = refl
by_install h roster (Some k) =
    second (map (λ j. changes.Dropped (held h j))
    (filter (ends (installed roster k) h) (received h)))
    (changes.Installed (seen_as false k) ∷ [])
    (by_drops (held h) (filter (ends (installed roster k) h) (received h)))

-- ---- a tick

-- a tick, given the key that it makes
abbrev turn_with : Member → Seen → List Entry → Option Key → Turn
turn_with m seen p key =
    let now = view m (ticked ∷ p) in
    let past = with_install (roster_at m p) key (begun_past m p) in
    let said = says_now m (lowest_in seen (view m p).keys) past (view m past) in
    record {
      reaction = record {
        heard = None;
        server = new_server (view m p) now;
        changes = ended (view m p).keys now.server ++ ((beginning now.keys (led m now)).changes
            ++ install_changes now.keys (roster_at m p) key);
        sent = option_map (frame_of m.setup) said;
      };
      past = with_sent said past;
    }

abbrev key_at : Member → Seen → Secret → List Entry → Option Key
key_at m seen sak p = made m (view m (ticked ∷ p)) seen sak

turn-is : (m : Member) (seen : Seen) (sak : Secret) (p : List Entry)
    → tick_turn m seen sak p ≡ turn_with m seen p (key_at m seen sak p)
unfolding tick_turn
turn-is m seen sak p = refl

turn-installs : (m : Member) (seen : Seen) (sak : Secret) (p : List Entry)
    → installed_by (tick_turn m seen sak p).reaction.changes ≡ option_map (λ k. k.sak)
    (key_at m seen sak p)
turn-installs m seen sak p =
    let now = view m (ticked ∷ p) in
    let key = key_at m seen sak p in
    let rest = install_changes now.keys (roster_at m p) key in
    ap (λ t. installed_by t.reaction.changes) (turn-is m seen sak p)
    ∙ second (ended (view m p).keys now.server) ((beginning now.keys (led m now)).changes ++ rest)
    (by_end (view m p).keys now.server)
    ∙ second (beginning now.keys (led m now)).changes rest (by_beginning now.keys (led m now))
    ∙ by_install now.keys (roster_at m p) key

mapped_if : {A B : Type 0} (f : A → B) (b : Bool) (a : A)
    → option_map f (cond b (Some a) None) ≡ cond b (Some (f a)) None
mapped_if f true a = refl
mapped_if f false a = refl

pub tick-draws : (settings : Settings) (s : ℕ) (r : Run) (next : ℕ) (sak : Secret) (l : Life)
    → drawn_sak (tick_facts settings s r next sak l)
    ≡ cond (makes_next l.member l.past (seen_at settings s r l next)) (Some sak) None
tick-draws settings s r next sak l =
    let seen = seen_at settings s r l next in
    reaction-installs s 0 (next_frame r) (turn_at_tick settings s r l next sak).reaction
    ∙ turn-installs l.member seen sak l.past
    ∙ mapped_if (λ (k : Key). k.sak) (makes_next l.member l.past seen)
    (made_key l.member.base l.member.mi (view l.member (ticked ∷ l.past)).keys l.member.setup.conf
    sak)

-- the SAK that a tick shows is the one that it drew
pub sak-shown : (settings : Settings) (s : ℕ) (r : Run) (next : ℕ) (sak : Secret) (l : Life)
    → makes_next l.member l.past (seen_at settings s r l next) ≡ true
    → sak_in (tick_facts settings s r next sak l) ≡ sak
sak-shown settings s r next sak l makes =
    ap (λ o. unwrap_or o no_sak)
    (tick-draws settings s r next sak l ∙ ap (λ b. cond b (Some sak) None) makes)

-- a tick that makes no key is the same whatever the supply gives
pub turn-same : (m : Member) (seen : Seen) (a b : Secret) (p : List Entry)
    → makes_next m p seen ≡ false → tick_turn m seen a p ≡ tick_turn m seen b p
turn-same m seen a b p none =
    let same : key_at m seen a p ≡ key_at m seen b p = rw none refl in
    turn-is m seen a p ∙ ap (turn_with m seen p) same ∙ sym (turn-is m seen b p)

pub tick-same : (settings : Settings) (s : ℕ) (r : Run) (next : ℕ) (a b : Secret) (l : Life)
    → makes_next l.member l.past (seen_at settings s r l next) ≡ false
    → tick_facts settings s r next a l ≡ tick_facts settings s r next b l
tick-same settings s r next a b l none =
    rw (turn-same l.member (seen_at settings s r l next) a b l.past none) refl

-- ---- the draws of a supply

pub mi-is : (nth : ℕ → Option (List ℕ)) → AreDraws nth → (draw : List ℕ) → nth 0 ≡ Some draw
    → IsMi (mi_of_draw draw)
mi-is nth are draw is =
    let shape = are.shape 0 draw is in
    let count = length-drop 4 draw in
    let long = shape.0 in
    (omega (arith, count, long), All-drop (λ octet. octet < 256) 4 draw shape.1)

-- what stands for a SAK has so many bits
abbrev IsOfBits : ℕ → Secret → Type 0
IsOfBits bits sak = IsSecret sak × (8 * length (secret_octets sak) ≡ bits)

narrow : (nth : ℕ → Option (List ℕ)) → AreDraws nth → (first : Option (List ℕ)) → nth 0 ≡ first
    → is_none first ≡ false → IsOfBits 128 (unwrap_or (option_map S128 first) (S128 []))
narrow nth are None is some = absurd (cc some)
narrow nth are (Some draw) is some =
    let shape = are.shape 0 draw is in
    let long = shape.0 in
    (shape, omega (arith, long))

wide : (nth : ℕ → Option (List ℕ)) → AreDraws nth → (first second : Option (List ℕ)) → nth 0 ≡ first
    → nth 1 ≡ second → is_none second ≡ false
    → IsOfBits 256
    (unwrap_or (option_and_then (λ a. option_map (λ b. S256 (a ++ b)) second) first) (S128 []))
wide nth are first None is then some = absurd (cc some)
wide nth are None (Some b) is then some = absurd (cc (are.ends 0 is, then))
wide nth are (Some a) (Some b) is then some =
    let one = are.shape 0 a is in
    let two = are.shape 1 b then in
    let count = length-append a b in
    let here = one.0 in
    let there = two.0 in (
      (omega (arith, count, here, there), All-append (λ octet. octet < 256) a b one.1 two.1),
      omega (arith, count, here, there),
    )

-- a key for which there are enough draws is one of the suite
pub sak-is : (settings : Settings) → (nth : ℕ → Option (List ℕ)) → AreDraws nth
    → is_spent (sak_draws settings.suite) nth ≡ false
    → IsOfSuite settings (sak_of settings.suite nth)
sak-is settings nth are enough =
    let bits = go settings.suite enough in
    record { secret = bits.0; bits = bits.1 }
  where
    go : (suite : Suite) → is_spent (sak_draws suite) nth ≡ false
        → IsOfBits (key_bits suite) (sak_of suite nth)
    go GcmAes128 spent = narrow nth are (nth 0) refl spent
    go GcmAes256 spent = wide nth are (nth 0) (nth 1) refl refl spent

-- ---- the suite of a life

abbrev HasSuite : Suite → Option Life → Type 0
HasSuite suite o = (l : Life) → o ≡ Some l → l.member.setup.suite ≡ suite

chosen : (suite : Suite) (b : Bool) (o p : Option Life) → HasSuite suite o → HasSuite suite p
    → HasSuite suite (cond b o p)
chosen suite true o p here there = here
chosen suite false o p here there = there

of_begun : (settings : Settings) (s : ℕ) (r : Run) (shown : List Fact) (p : Profile)
    → HasSuite settings.suite (begun settings s r shown p)
of_begun settings s r shown p = go (drawn_mi shown)
  where
    go : (o : Option Mi) → HasSuite settings.suite (option_map
        (λ mi. record {
          member = record { setup = setup_of settings p; mi = mi; base = length (installs_at s r) };
          past = [];
        })
        o)
    go None l is = absurd (cc is)
    go (Some mi) l is =
        subst (λ (l : Life). l.member.setup.suite ≡ settings.suite) (some-same is) refl

of_restart : (settings : Settings) (s : ℕ) (r : Run) (shown : List Fact) (o : Option Profile)
    → HasSuite settings.suite (option_and_then (begun settings s r shown) o)
of_restart settings s r shown None l is = absurd (cc is)
of_restart settings s r shown (Some p) l is = of_begun settings s r shown p l is

of_lived : (suite : Suite) (f : Life → Life) → ((l : Life) → (f l).member ≡ l.member)
    → (o : Option Life)
    → HasSuite suite o → HasSuite suite (option_map f o)
of_lived suite f keeps None has l is = absurd (cc is)
of_lived suite f keeps (Some m) has l is =
    let same : f m ≡ l = some-same is in
    ap (λ (l : Life). l.member.setup.suite) (sym same)
    ∙ ap (λ (m : Member). m.setup.suite) (keeps m) ∙ has m refl

heard_keeps : (octets : List ℕ) (l : Life) → (lived_hearing l octets).member ≡ l.member
heard_keeps octets l = go (is_sec octets)
  where
    go : (b : Bool) → (cond b l (lived l (frame_turn l.member octets l.past))).member ≡ l.member
    go true = refl
    go false = refl

of_reached : (suite : Suite) (o : Option Life) (octets : Option (List ℕ)) → HasSuite suite o
    → HasSuite suite (lived_reached o octets)
of_reached suite o None has = has
of_reached suite o (Some octets) has =
    of_lived suite (λ l. lived_hearing l octets) (heard_keeps octets) o has

after : (settings : Settings) (s : ℕ) (r : Run) (shown : List Fact) (e : Event) (o : Option Life)
    → HasSuite settings.suite o → HasSuite settings.suite (life_after settings s r shown e o)
after settings s r shown (events.Start name sci priority) o has =
    let p : Profile = record { name = name; sci = sci; priority = priority } in
    chosen settings.suite (length (stations r) == s) (begun settings s r shown p) o
    (of_begun settings s r shown p) has
after settings s r shown (events.Tick station next) o has =
    chosen settings.suite (station == s) _ o
    (of_lived settings.suite (lived_ticking settings s r next (sak_in shown)) (λ l. refl) o has) has
after settings s r shown (events.Deliver frame station) o has =
    of_reached settings.suite o (reaches s r (events.Deliver frame station)) has
after settings s r shown (events.Restart station) o has =
    chosen settings.suite (station == s) _ o
    (of_restart settings s r shown (slice_get (stations r) s)) has
after settings s r shown (events.Claim station user pn) o has = has
after settings s r shown events.Emit o has = has
after settings s r shown (events.Inject station octets) o has =
    of_reached settings.suite o (reaches s r (events.Inject station octets)) has

pub suite-of : (settings : Settings) (s : ℕ) (r : Run) (l : Life) → life settings s r ≡ Some l
    → l.member.setup.suite ≡ settings.suite
unfolding life
suite-of settings s [] l is = absurd (cc is)
suite-of settings s (x ∷ r) l is =
    after settings s r x.facts x.event (life settings s r) (λ l is. suite-of settings s r l is) l is
